-- What the program answers for a scheme's words.
use Rattle.std.specs.Prelude.{◌≡◌, ℕ, List, Ok, Err, Result}
use Rattle.model.specs.Plan.{Letter, Planned}
use Rattle.model.specs.Scheme.{Scheme}
use Rattle.grammar.specs.declared.refusal.Refusal.{Refusal}
use Rattle.scheme.specs.Verdicts.{Accepted, Refused}
use Rattle.plan.specs.Text.{plan_line}

-- the line of the letters of the scheme that the words say, or the refusal of the words; a text's bytes are given
abbrev pub Answered : {X : Type 0} → (X → List ℕ) → List ℕ → Result X Refusal → Type 0
Answered bytes ws (Ok t) = (s : Scheme) × Accepted ws s × ((ls : List Letter) × Planned s ls × (bytes t ≡ plan_line ls))
Answered bytes ws (Err e) = Refused ws e
