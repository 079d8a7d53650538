-- When two answers of reading say the same.
use Rattle.std.specs.Prelude.{◌≡◌, ℕ, ◌⊎◌, List, Ok, Err, Result}
use Rattle.grammar.specs.declared.refusal.Refusal.{Refusal}
use Rattle.grammar.specs.declared.refusal.Refusal.TheVariants.{Memory}
use Rattle.scheme.specs.declared.scheme.Scheme.{Scheme}
use Rattle.scheme.specs.Whole.{scheme_of, Judged}

-- two answers say the same: the same scheme, or the same refusal; want of memory says nothing
abbrev pub Agree : Result Scheme Refusal → Result Scheme Refusal → Type 0
Agree (Ok s) (Ok t) = scheme_of s ≡ scheme_of t
Agree (Ok s) (Err e) = e ≡ Memory
Agree (Err e) (Ok t) = e ≡ Memory
Agree (Err e) (Err f) = (e ≡ f) ⊎ ((e ≡ Memory) ⊎ (f ≡ Memory))

-- reading the same words twice cannot answer two things
abbrev pub OneAnswer : Type 0
OneAnswer = (ws : List ℕ) (r t : Result Scheme Refusal) → Judged ws r → Judged ws t → Agree r t
