-- What one word does to a draft, and what some words in a row do.
use Rattle.std.specs.Prelude.{◌≡◌, ℕ, ◌+◌, List, ◌++◌, length, Ok, Err, Result}
use Rattle.std.proofs.Math.Option.{none, some}
use Rattle.model.specs.Words as Words
use Rattle.model.specs.Words.{Sofar, objection, accepted, fields, kind, Read, read, read_from, scheme, stopped}
use Rattle.reader.specs.declared.draft.Next.{Next}
use Rattle.reader.specs.declared.draft.Next.TheVariants.{FirstSymbol, Symbols, Children, Rules, Arguments, Steps, Nothing}
use Rattle.reader.specs.declared.draft.Draft.{Draft}
use Rattle.grammar.specs.declared.parts.Grammar.{Grammar}
use Rattle.reader.specs.declared.form.Form.{Form}
use Rattle.reader.specs.Forms.{Says}
use Rattle.grammar.specs.declared.refusal.Refusal.{Refusal}
use Rattle.grammar.specs.declared.refusal.Refusal.TheVariants.{Memory, UnevenBytes, NoWords, TooManyWords, OutOfOrder, OverLimit, BadField, Absent, WrongSort, BadRoot, NoFiniteTree, OutOfReach, NotRuledOnce, NotEvaluatedOnce, BadSequence, TooEarly}
use Rattle.grammar.specs.Views.{grammar_of, production_of}

abbrev pub next_of : Next → Words.Next
next_of FirstSymbol = Words.first_symbol
next_of Symbols = Words.symbols
next_of (Children n) = Words.children n
next_of Rules = Words.rules
next_of (Arguments n) = Words.arguments n
next_of Steps = Words.steps
next_of Nothing = Words.nothing

-- rules come where no child and no argument is left to come
abbrev pub settled : Words.Next → Words.Next
settled Words.first_symbol = Words.first_symbol
settled Words.symbols = Words.symbols
settled (Words.children n) = Words.after_children n
settled Words.rules = Words.rules
settled (Words.arguments n) = Words.after_arguments n
settled Words.steps = Words.steps
settled Words.nothing = Words.nothing

-- what the draft has read
abbrev pub sofar_of : Draft → Sofar
sofar_of d = record {
  visits = (grammar_of d.whole).visits;
  attributes = (grammar_of d.whole).attributes;
  whole = (grammar_of d.whole).productions;
  current = production_of d.current;
  next = next_of d.next;
}

-- the number and the word of a refusal that a word gives cause for
abbrev pub Stops : Refusal → (ℕ → ℕ → Type 0) → Type 0
Stops Memory P = Unit {0}
Stops UnevenBytes P = ⊥
Stops NoWords P = ⊥
Stops TooManyWords P = ⊥
Stops (OutOfOrder w) P = P 3 w
Stops (OverLimit w) P = P 4 w
Stops (BadField w) P = P 5 w
Stops (Absent w) P = P 6 w
Stops (WrongSort w) P = P 7 w
Stops (BadRoot x) P = ⊥
Stops (NoFiniteTree x) P = ⊥
Stops (OutOfReach x) P = ⊥
Stops (NotRuledOnce p) P = ⊥
Stops (NotEvaluatedOnce p) P = ⊥
Stops (BadSequence p) P = ⊥
Stops (TooEarly p t) P = ⊥

-- one word, at place i: it is accepted and taken, or its first cause for refusal is named
abbrev pub Took : {X : Type 0} → Sofar → ℕ → ℕ → Result X Refusal → Sofar → Type 0
Took q i w (Ok x) q' = (objection q w ≡ none) × (accepted q (fields (kind w) w) ≡ q')
Took q i w (Err e) q' = Stops e (λ n j. (objection q w ≡ some n) × (i ≡ j))

-- what the word at place i says, or its first cause for refusal
abbrev pub Judges : Sofar → ℕ → ℕ → Result Form Refusal → Type 0
Judges q i w (Ok f) = (objection q w ≡ none) × Says w f
Judges q i w (Err e) = Stops e (λ n j. (objection q w ≡ some n) × (i ≡ j))

-- some words in a row, from place i on, whatever follows them
abbrev pub Reads : {X : Type 0} → Sofar → ℕ → List ℕ → Result X Refusal → Sofar → Type 0
Reads q i ws (Ok x) q' = (rest : List ℕ) → read_from (ws ++ rest) i q ≡ read_from rest (i + length ws) q'
Reads q i ws (Err e) q' = Stops e (λ n j. (rest : List ℕ) → read_from (ws ++ rest) i q ≡ stopped n j)

-- what holds where a thing was added; only want of memory can keep it out
abbrev pub Adds : {X : Type 0} → Result X Refusal → Type 0 → Type 0
Adds (Ok x) P = P
Adds (Err e) P = e ≡ Memory

-- what reading came to: a scheme, or the number and the word at which it stopped
abbrev pub Ends : Read → Result Grammar Refusal → Type 0
Ends a (Ok g) = a ≡ scheme (grammar_of g)
Ends a (Err e) = Stops e (λ n j. a ≡ stopped n j)

abbrev pub ReadAs : List ℕ → Result Grammar Refusal → Type 0
ReadAs ws r = Ends (read ws) r
