use Rattle.std.proofs.Common.{◌≡◌, ◌/◌, ◌∙◌, ℕ, List, map, length, ap, subst, w32, arith}
use Rattle.std.specs.Int.{from_be_bytes}
use Rattle.std.proofs.lemmas.Result.{err_from_is_err_and}
use Rattle.model.specs.Words.{from_bytes}
use Rattle.scheme.proofs.Bytes.{words_chunked, word_count}
use Rattle.scheme.specs.Whole.{Judged}
use Rattle.scheme.proofs.scheme.Scheme.from_bytes.Goals as goal

pub returns-in_err-check_size-clause-whole : goal.returns-in_err-check_size-clause-whole
returns-in_err-check_size-clause-whole c whole =
    let bs = c.args.bytes.now in
    let n = word_count bs whole in
    let p = err_from_is_err_and c.from_residual.result c.from_residual.ensures.1 in
    rw (p.1, p.2) (c.in_err-check_size.ensures (from_bytes bs) (omega arith))

pub returns-in_err-words-clause-whole : goal.returns-in_err-words-clause-whole
returns-in_err-words-clause-whole c whole =
    let bs = c.args.bytes.now in
    let n = word_count bs whole in
    let p = err_from_is_err_and c.from_residual-in_err-words.result c.from_residual-in_err-words.ensures.1 in
    rw (p.1, p.2) (c.in_ok-check_size.ensures (from_bytes bs) (omega arith))

pub returns-clause-whole : goal.returns-clause-whole
returns-clause-whole c whole =
    let bs = c.args.bytes.now in
    let words = words_chunked (length bs / 4) bs (omega arith) (omega arith) in
    let all : c.deref.result.now ≡ from_bytes bs = c.deref.ensures.value ∙ c.in_ok-words.ensures ∙ ap (map (from_be_bytes w32)) c.as_chunks.ensures.front ∙ words in
    subst (λ (ws : List ℕ). Judged ws c.read.result) all c.read.ensures
