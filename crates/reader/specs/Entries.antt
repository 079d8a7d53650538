-- A scheme's words as entries: which words belong to the entry that some words begin with.
use Rattle.std.specs.Prelude.{◌≡◌, ℕ, ◌+◌, ◌<◌, ◌≤◌, min, Bool, cond, List, [], ◌∷◌, ◌++◌, length, ◌==◌, ◌≢◌, Option, Some, None, slice_index}
use Rattle.std.specs.List.{prefix_len}
use Rattle.model.specs.Words.{kind, field}
use Rattle.reader.specs.declared.part.Part.{Part}
use Rattle.reader.specs.declared.entry.Entry.{Entry}
use Rattle.reader.specs.declared.entry.Entry.TheVariants.{Symbol, Production, Rule, Step, Other}
use Rattle.reader.specs.declared.entries.Entries.{Entries}

abbrev pub is_attribute : ℕ → Bool
is_attribute w = kind w == 2

-- how many of the words that follow a word belong to its entry: a symbol's attributes, as many children or arguments as a production or a rule says
abbrev pub members : ℕ → List ℕ → ℕ
members w rest =
    cond (kind w == 1) (prefix_len is_attribute rest)
    (cond (kind w == 3) (min (field w 16 4) (length rest))
    (cond (kind w == 5) (min (field w 4 4) (length rest)) 0))

-- how many words the entry has that some words begin with
abbrev pub entry_size : List ℕ → ℕ
entry_size [] = 0
entry_size (w ∷ ws) = 1 + members w ws

abbrev pub part_of : Entry → Part
part_of (Symbol p) = p
part_of (Production p) = p
part_of (Rule p) = p
part_of (Step p) = p
part_of (Other p) = p

-- the kinds of word that each case of an entry begins with
abbrev pub Begins : Entry → ℕ → Type 0
Begins (Symbol p) k = k ≡ 1
Begins (Production p) k = k ≡ 3
Begins (Rule p) k = k ≡ 5
Begins (Step p) k = (7 ≤ k) × (k ≤ 9)
Begins (Other p) k = (k ≢ 1) × (k ≢ 3) × (k ≢ 5) × (7 ≤ k → 9 < k)

-- the words whose entries are still to come
abbrev pub words_left : Entries → List ℕ
words_left s = s.rest.words.now

-- an entry is the first of the words that were left, all that belong to it, at their place, and its case is the first word's
pub record BeginsWith (old : Entries) (e : Entry) (new : Entries) : Type 0 where
  pub inside : 0 < length (words_left old)
  pub place_is : (part_of e).place ≡ old.rest.place
  pub begins : Begins e (kind (slice_index (words_left old) 0))
  pub size_is : length (part_of e).words.now ≡ entry_size (words_left old)
  pub words_are : words_left old ≡ (part_of e).words.now ++ words_left new
  pub goes_on : new.rest.place ≡ (part_of e).place + length (part_of e).words.now

abbrev pub GivesEntry : Entries → Option Entry → Entries → Type 0
GivesEntry old None new = (words_left old ≡ []) × (words_left new ≡ [])
GivesEntry old (Some e) new = BeginsWith old e new
