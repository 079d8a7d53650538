use Rattle.std.proofs.Common.{refl}
use Rattle.model.proofs.Main.{truncated_lawful, truncated_formed, truncated_limited}
use Rattle.scheme.specs.Whole.{scheme_of}
use Rattle.scheme.proofs.scheme.Scheme.grammar.Goals as goal

pub returns : goal.returns
returns c =
    let s = c.args.self.now in
    record { value = refl; formed = truncated_formed (scheme_of s) s.formed; limited = truncated_limited (scheme_of s) s.limited; lawful = truncated_lawful (scheme_of s) s.lawful }
