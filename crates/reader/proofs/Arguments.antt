-- One more argument of the last rule. Assumes nothing.
use Rattle.std.proofs.Common.{◌≡◌, ℕ, zero, suc, List, [], ◌∷◌, ◌++◌, map, length, get_or, set, vec_items, ap, ◌∙◌, arith}
use Rattle.std.proofs.lemmas.List.{map_push}
use Rattle.model.specs.Words.{with_argument}
use Rattle.grammar.specs.declared.parts.Rule.{Rule}
use Rattle.grammar.specs.declared.parts.Occurrence.{Occurrence}
use Rattle.grammar.specs.Views.{rule_of, occurrence_of}

-- the last of the rules, at place m, before and after
pub argued : (rs : List Rule) (m : ℕ) (r' : Rule) (o : Occurrence) (r : Rule) → suc m ≡ length rs → r ≡ get_or rs m r → r'.number ≡ r.number → r'.target ≡ r.target → vec_items r'.arguments ≡ vec_items r.arguments ++ (o ∷ []) → map rule_of (set rs m r') ≡ with_argument (occurrence_of o) (map rule_of rs)
argued [] m r' o r l e n t a = absurd (omega arith)
argued (x ∷ []) zero r' o r l e n t a =
    let b = ap (map occurrence_of) a ∙ map_push occurrence_of (vec_items r.arguments) o in
    cc
argued (x ∷ []) (suc m) r' o r l e n t a = absurd (omega arith)
argued (x ∷ y ∷ ys) zero r' o r l e n t a = absurd (omega arith)
argued (x ∷ y ∷ ys) (suc m) r' o r l e n t a = let h = argued (y ∷ ys) m r' o r (omega arith) e n t a in cc
