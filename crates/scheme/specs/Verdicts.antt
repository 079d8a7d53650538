-- What reading answers: for every row of words a scheme or the first cause for refusal in the order of checking.
use Rattle.std.specs.Prelude.{◌≡◌, ℕ, ◌<◌, ◌≤◌, List, length, Ok, Err, Result}
use Rattle.model.specs.Scheme.{Scheme}
use Rattle.model.specs.Lawful.{Lawful}
use Rattle.model.specs.Formed.{Formed, Limited}
use Rattle.model.specs.Checking.{Check, root, finite, reached, ruled, evaluated, sequenced, ordered, BeforeProduction, ProductionKept, FirstBroken}
use Rattle.model.specs.Words.{read, scheme, stopped, words_of}
use Rattle.grammar.specs.declared.refusal.Refusal.{Refusal}
use Rattle.grammar.specs.declared.refusal.Refusal.TheVariants.{Memory, UnevenBytes, NoWords, TooManyWords, OutOfOrder, OverLimit, BadField, Absent, WrongSort, BadRoot, NoFiniteTree, OutOfReach, NotRuledOnce, NotEvaluatedOnce, BadSequence, TooEarly}

-- a refusal of the scheme that the words say: its rule is the first that is broken
abbrev pub Broke : Scheme → Refusal → Type 0
Broke s Memory = Unit {0}
Broke s UnevenBytes = ⊥
Broke s NoWords = ⊥
Broke s TooManyWords = ⊥
Broke s (OutOfOrder w) = ⊥
Broke s (OverLimit w) = ⊥
Broke s (BadField w) = ⊥
Broke s (Absent w) = ⊥
Broke s (WrongSort w) = ⊥
Broke s (BadRoot x) = (x ≡ 0) × FirstBroken s root
Broke s (NoFiniteTree x) = FirstBroken s (finite x)
Broke s (OutOfReach x) = FirstBroken s (reached x)
Broke s (NotRuledOnce n) = FirstBroken s (ruled n)
Broke s (NotEvaluatedOnce n) = FirstBroken s (evaluated n)
Broke s (BadSequence n) = FirstBroken s (sequenced n)
Broke s (TooEarly n t) = FirstBroken s (ordered n t)

-- what the checks answer of one production where all is kept before it, and of the whole scheme
abbrev pub ProductionJudged : {X : Type 0} → Scheme → ℕ → Result X Refusal → Type 0
ProductionJudged s n (Ok x) = ProductionKept s n
ProductionJudged s n (Err e) = BeforeProduction s n → Broke s e

abbrev pub SchemeJudged : {X : Type 0} → Scheme → Result X Refusal → Type 0
SchemeJudged s (Ok x) = Lawful s
SchemeJudged s (Err e) = Broke s e

-- there are words, and not too many
abbrev pub Sized : List ℕ → Type 0
Sized ws = (0 < length ws) × (length ws ≤ 4096)

-- the scheme that the words say: it is written by those words, in form, within the limits, and keeps every rule
pub record Accepted (ws : List ℕ) (s : Scheme) : Type 0 where
  pub sized : Sized ws
  pub said : read ws ≡ scheme s
  pub written : words_of s ≡ ws
  pub formed : Formed s
  pub limited : Limited s
  pub lawful : Lawful s

-- the words say a scheme, and this rule is the first that it breaks
pub record SaidButBroken (ws : List ℕ) (c : Check) : Type 0 where
  pub sized : Sized ws
  pub said_scheme : Scheme
  pub said : read ws ≡ scheme said_scheme
  pub first : FirstBroken said_scheme c

-- a word is the first that gives cause for refusal, by this number
abbrev pub Stopped : List ℕ → ℕ → ℕ → Type 0
Stopped ws number word = Sized ws × (read ws ≡ stopped number word)

-- the cause of each refusal; memory can be wanted only where there are words to read, and not too many
abbrev pub Refused : List ℕ → Refusal → Type 0
Refused ws Memory = Sized ws
Refused ws UnevenBytes = ⊥
Refused ws NoWords = length ws ≡ 0
Refused ws TooManyWords = 4096 < length ws
Refused ws (OutOfOrder w) = Stopped ws 3 w
Refused ws (OverLimit w) = Stopped ws 4 w
Refused ws (BadField w) = Stopped ws 5 w
Refused ws (Absent w) = Stopped ws 6 w
Refused ws (WrongSort w) = Stopped ws 7 w
Refused ws (BadRoot x) = (x ≡ 0) × SaidButBroken ws root
Refused ws (NoFiniteTree x) = SaidButBroken ws (finite x)
Refused ws (OutOfReach x) = SaidButBroken ws (reached x)
Refused ws (NotRuledOnce n) = SaidButBroken ws (ruled n)
Refused ws (NotEvaluatedOnce n) = SaidButBroken ws (evaluated n)
Refused ws (BadSequence n) = SaidButBroken ws (sequenced n)
Refused ws (TooEarly n t) = SaidButBroken ws (ordered n t)

-- what is answered of the number of words alone
abbrev pub SizeJudged : {X : Type 0} → List ℕ → Result X Refusal → Type 0
SizeJudged ws (Ok x) = Sized ws
SizeJudged ws (Err e) = Refused ws e
