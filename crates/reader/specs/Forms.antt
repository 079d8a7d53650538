-- What one word says, in the model's words.
use Rattle.std.specs.Prelude.{◌≡◌, ℕ}
use Rattle.std.proofs.Math.Option.{some}
use Rattle.model.specs.Words as Words
use Rattle.model.specs.Words.{kind, fields}
use Rattle.grammar.specs.Views.{visit_of}
use Rattle.grammar.specs.declared.parts.Step.TheVariants.{Eval, Visit, Leave}
use Rattle.reader.specs.declared.form.Form.{Form}
use Rattle.reader.specs.declared.form.Form.TheVariants.{Symbol, Attribute, Production, Child, Rule, Argument, Step, End}

abbrev pub form_of : Form → Words.Form
form_of (Symbol v) = Words.symbol (visit_of v)
form_of (Attribute d v) = Words.attribute d (visit_of v)
form_of (Production x c) = Words.production x c
form_of (Child x) = Words.child x
form_of (Rule n o c) = Words.rule n o.position o.attribute c
form_of (Argument o) = Words.argument o.position o.attribute
form_of (Step (Eval r)) = Words.eval r
form_of (Step (Visit k j)) = Words.visit k.0 j.0
form_of (Step (Leave i)) = Words.leave i.0
form_of End = Words.end

-- the word says the form
abbrev pub Says : ℕ → Form → Type 0
Says w f = fields (kind w) w ≡ some (form_of f)
