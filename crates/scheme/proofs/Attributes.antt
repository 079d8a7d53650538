-- The attribute of an occurrence, by the symbol at its position and the attribute of its number. Assumes nothing.
use Rattle.std.proofs.Common.{◌≡◌, ℕ, Bool, true, false, cond, eqb, refl, sym, ap, ◌∙◌}
use mathlib.Core.Option.{Option, none, some}
use Rattle.std.proofs.lemmas.Bool.{eqb-true, eq-eqb}
use Rattle.model.specs.Scheme.{Attribute, attribute_of_symbol}
use Rattle.model.proofs.Common.ListFacts.{some_none, some_same}

pub from_parts : (m : Option ℕ) (n : Option Attribute) (x : ℕ) (b : Attribute) → m ≡ some x → n ≡ some b → b.symbol ≡ x → attribute_of_symbol m n ≡ some b
from_parts m n x b e f h = rw (e, f, eq-eqb b.symbol x h) refl

pub parts : (m : Option ℕ) (n : Option Attribute) (b : Attribute) → attribute_of_symbol m n ≡ some b → (m ≡ some b.symbol) × (n ≡ some b)
parts none n b e = absurd (some_none b e)
parts (some x) none b e = absurd (some_none b e)
parts (some x) (some a) b e = go (eqb a.symbol x) refl e
  where
    go : (t : Bool) → eqb a.symbol x ≡ t → cond t (some a) none ≡ some b → (some x ≡ some b.symbol) × (some a ≡ some b)
    go true u f =
        let same = some_same a b f in
        (ap some (sym (eqb-true a.symbol x u) ∙ ap (λ (z : Attribute). z.symbol) same), f)
    go false u f = absurd (some_none b f)
