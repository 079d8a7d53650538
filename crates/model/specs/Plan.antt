-- Where an attribute's values live: in a single cell, on a stack, or in the tree. Assumes nothing.
use Rattle.std.specs.Prelude.{◌≡◌, ℕ, Bool, true, false, List, length, ◌≢◌, nat_eq}
use Rattle.std.proofs.Math.Option.{Option, none, some}
use Rattle.std.proofs.Math.ListN.{get_elem?}
use Rattle.model.specs.Lists.{Has}
use Rattle.model.specs.Scheme.{Attribute, Production, Scheme}
use Rattle.model.specs.Loose.{Alternate}
use Rattle.model.specs.Conditions.{StackLike}

pub data Letter : Type 0 where
  C S K : Letter

-- attribute a is none of symbol 0's
abbrev pub Below : Scheme → ℕ → Type 0
Below s a = (b : Attribute) × Has s.attributes a b × (b.symbol ≢ 0)

-- its lives alternate on every loose walk
abbrev pub Single : Scheme → ℕ → Type 0
Single s a = Below s a × Alternate s (nat_eq a)

-- its spans are those of a stack in every production, and it has no single cell
abbrev pub Stacked : Scheme → ℕ → Type 0
Stacked s a = (b : Attribute) × Has s.attributes a b × (b.symbol ≢ 0) × ((n : ℕ) (p : Production) → Has s.productions n p → StackLike s a b p) × (Single s a → ⊥)

-- the letter of attribute a
abbrev pub Lettered : Scheme → ℕ → Letter → Type 0
Lettered s a C = Single s a
Lettered s a S = Stacked s a
Lettered s a K = (Single s a → ⊥) × (Stacked s a → ⊥)

-- the letters of all attributes
abbrev pub Planned : Scheme → List Letter → Type 0
Planned s ls = (length ls ≡ length s.attributes) × ((a : ℕ) (l : Letter) → Has ls a l → Lettered s a l)

abbrev pub letter_or_kept : Option Letter → Letter
letter_or_kept none = K
letter_or_kept (some l) = l

-- the letter of attribute a
abbrev pub letter : List Letter → ℕ → Letter
letter ls a = letter_or_kept (get_elem? ls a)

abbrev pub is_stacked : Letter → Bool
is_stacked C = false
is_stacked S = true
is_stacked K = false
