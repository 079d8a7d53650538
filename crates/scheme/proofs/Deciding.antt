-- Deciding what is asked, of one thing or of every number below a bound. Assumes nothing.
use Rattle.std.proofs.Common.{ℕ, ◌<◌, true, false, Decides, refl}
use Rattle.std.proofs.lemmas.Bool.{both_ways}

-- P holds of every number below n
abbrev pub Below : (ℕ → Type 0) → ℕ → Type 0
Below P n = (k : ℕ) → k < n → P k

pub holds : {Q : Type 0} → Q → Decides true Q
holds h = (λ t. h, λ q. refl)

pub fails : {Q : Type 0} → (Q → ⊥) → Decides false Q
fails h = (λ t. absurd (both_ways false refl t), λ q. absurd (h q))
