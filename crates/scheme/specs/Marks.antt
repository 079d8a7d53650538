-- Marks on symbols, and how a production carries them from its symbols to others.
use Rattle.std.specs.Prelude.{◌≡◌, ℕ, ◌<◌, ◌≤◌, Bool, true, false, not, List, length, count_by, slice_index_or}
use Rattle.model.specs.Lists.{Has}
use Rattle.model.specs.Scheme.{Production, Scheme}
use Rattle.model.specs.Lawful.{Finite, Reached}
use Rattle.model.specs.Checking.{Check, finite, reached}
use Rattle.scheme.specs.declared.checks.spread.Spread.{Spread}
use Rattle.scheme.specs.declared.checks.spread.Spread.TheVariants.{Up, Down}

abbrev pub marked : List Bool → ℕ → Bool
marked ms x = slice_index_or ms x false

abbrev pub missing : List Bool → ℕ
missing ms = count_by not ms

-- each of the symbols has a mark
abbrev pub AllMarked : List Bool → List ℕ → Type 0
AllMarked ms xs = (k x : ℕ) → Has xs k x → marked ms x ≡ true

-- each of the symbols has a place for its mark
abbrev pub Placed : List Bool → List ℕ → Type 0
Placed ms xs = (k x : ℕ) → Has xs k x → x < length ms

-- only what has the property is marked
abbrev pub Only : (ℕ → Type 0) → List Bool → Type 0
Only P ms = (x : ℕ) → marked ms x ≡ true → P x

-- What became of the marks: none is gone, what has a new one has the property, and `added` says whether there is a new one.
pub record Grown (P : ℕ → Type 0) (before ms : List Bool) (added : Bool) : Type 0 where
  pub size : length ms ≡ length before
  pub kept : (x : ℕ) → marked before x ≡ true → marked ms x ≡ true
  pub new : (x : ℕ) → marked before x ≡ false → marked ms x ≡ true → P x
  pub level : missing ms ≤ missing before
  pub fewer : added ≡ true → missing ms < missing before
  pub still : added ≡ false → ms ≡ before

-- the production carries no mark further
abbrev pub Settled : Spread → List Bool → Production → Type 0
Settled Up ms p = AllMarked ms p.children → marked ms p.left ≡ true
Settled Down ms p = marked ms p.left ≡ true → AllMarked ms p.children

-- what a production may give a mark to
abbrev pub Carried : Spread → List Bool → Production → ℕ → Type 0
Carried Up ms p x = (x ≡ p.left) × AllMarked ms p.children
Carried Down ms p x = (marked ms p.left ≡ true) × ((k : ℕ) × Has p.children k x)

-- one production has carried its marks
pub record Followed (way : Spread) (p : Production) (before ms : List Bool) (added : Bool) : Type 0 where
  pub grown : Grown (Carried way before p) before ms added
  pub settled : added ≡ false → Settled way before p

-- what the marks stand for: symbols that derive a finite tree, or that the root reaches
abbrev pub Meant : Spread → Scheme → ℕ → Type 0
Meant Up s x = Finite s x
Meant Down s x = Reached s x

abbrev pub asked : Spread → ℕ → Check
asked Up x = finite x
asked Down x = reached x

-- what is marked at the start, besides what the marks stand for
abbrev pub Begun : Spread → List Bool → Type 0
Begun Up ms = Unit {0}
Begun Down ms = marked ms 0 ≡ true

-- the productions before i have carried their marks
pub record Round (way : Spread) (s : Scheme) (before ms : List Bool) (added : Bool) (i : ℕ) : Type 0 where
  pub grown : Grown (Meant way s) before ms added
  pub settled : added ≡ false → (n : ℕ) (p : Production) → n < i → Has s.productions n p → Settled way before p

-- no production carries a mark further
abbrev pub Closed : Spread → Scheme → List Bool → Type 0
Closed way s ms = (n : ℕ) (p : Production) → Has s.productions n p → Settled way ms p

-- marks that have grown as far as the productions carry them
pub record Full (way : Spread) (s : Scheme) (before ms : List Bool) : Type 0 where
  pub size : length ms ≡ length before
  pub kept : (x : ℕ) → marked before x ≡ true → marked ms x ≡ true
  pub only : Only (Meant way s) ms
  pub closed : Closed way s ms
