-- The main theorems. Each is stated here once more; its proof stands in the folder named with it.
use Rattle.std.proofs.Common.{◌≡◌, ℕ, ◌≤◌, Bool, true, ◌↔◌, List}
use Rattle.model.specs.Scheme.{Attribute, Step, Production, Scheme}
use Rattle.model.specs.Sequences.{section, uses, defines}
use Rattle.model.specs.Formed.{Formed, Limited}
use Rattle.model.specs.Lawful.{Lawful}
use Rattle.model.specs.Checking.{Check, Keeps, FirstBroken}
use Rattle.model.specs.Conditions.{StackLike, Last, First}
use Rattle.model.specs.Lists.{Has}
use Rattle.model.specs.Loose.{Mark, Loose, Alternate}
use Rattle.model.specs.Outcomes.{decide}
use Rattle.model.specs.Plan.{Letter, Lettered, Planned}
use Rattle.model.specs.Spans.{own, last_section, first_section, stacks}
use Rattle.model.specs.Words.{scheme, read, words_of}
use Rattle.model.proofs.Plan.Exists.{has_walk}
use Rattle.model.proofs.Plan.Letters.{exactly_one}
use Rattle.model.proofs.Plan.Plans.{plan_of, plan_fits, plan_unique}
use Rattle.model.proofs.Plan.Rounds.{decide_exactly}
use Rattle.model.proofs.Spans.Conditions.{stacks_told, stacks_tested}
use Rattle.model.proofs.Spans.Extremes.{last_is, first_is}
use Rattle.model.proofs.Spans.Given as sections
use Rattle.model.proofs.Stands.{lawful_stands, formed_stands, limited_stands}
use Rattle.model.proofs.Verdict as verdict
use Rattle.model.proofs.Words.ReadForm.{read-formed}
use Rattle.model.proofs.Words.ReadLimits.{read-limited}
use Rattle.model.proofs.Words.RoundTrip.{read-written, read_once}

-- WORDS (folder Words)

-- A scheme that is read from words is in form, and keeps the limits.
pub words_formed : (ws : List ℕ) (s : Scheme) → read ws ≡ scheme s → Formed s
words_formed ws s e = read-formed ws s e

pub words_limited : (ws : List ℕ) (s : Scheme) → read ws ≡ scheme s → Limited s
words_limited ws s e = read-limited ws s e

-- It is written by those words and no others.
pub words_round_trip : (ws : List ℕ) (s : Scheme) → read ws ≡ scheme s → words_of s ≡ ws
words_round_trip ws s e = read-written ws s e

pub words_determined : (ws ws' : List ℕ) (s : Scheme) → read ws ≡ scheme s → read ws' ≡ scheme s → ws ≡ ws'
words_determined ws ws' s e e' = read_once ws ws' s e e'

-- TRUNCATED FACTS (file Stands)

-- What is known of a scheme up to truncation is known.
pub truncated_lawful : (s : Scheme) → ∥ Lawful s ∥₁ → Lawful s
truncated_lawful s t = lawful_stands s t

pub truncated_formed : (s : Scheme) → ∥ Formed s ∥₁ → Formed s
truncated_formed s t = formed_stands s t

pub truncated_limited : (s : Scheme) → ∥ Limited s ∥₁ → Limited s
truncated_limited s t = limited_stands s t

-- VERDICTS (file Verdict)

-- At most one rule is the first that a scheme breaks.
pub first_broken_once : (s : Scheme) (c d : Check) → FirstBroken s c → FirstBroken s d → c ≡ d
first_broken_once s c d h k = verdict.first_broken_once s c d h k

-- A lawful scheme has no first broken rule.
pub lawful_unbroken : (s : Scheme) (c : Check) → Lawful s → FirstBroken s c → ⊥
lawful_unbroken s c l b = verdict.lawful_unbroken s c l b

-- A lawful scheme keeps every rule.
pub lawful_keeps : (s : Scheme) → Lawful s → (c : Check) → Keeps s c
lawful_keeps s l c = verdict.lawful_keeps s l c

-- A scheme that keeps every rule is lawful.
pub keeps_lawful : (s : Scheme) → ((c : Check) → Keeps s c) → Lawful s
keeps_lawful s k = verdict.keeps_lawful s k

-- LETTERS (folder Plan)

-- Every section of every symbol of a lawful scheme has a loose walk, so that no attribute alternates for want of walks.
pub walks_exist : (s : Scheme) → Lawful s → Formed s → (members : ℕ → Bool) (x v i : ℕ) → Has s.visits x v → 1 ≤ i → i ≤ v → (ms : List Mark) × Loose s members x i ms
walks_exist s law formed members x v i h a b = has_walk s law formed members x v i h a b

-- The lives of a set of attributes alternate on every loose walk exactly where a table of outcomes, filled in rounds, says so.
pub alternation_decided : (s : Scheme) → Formed s → (members : ℕ → Bool) → (decide s members ≡ true) ↔ Alternate s members
alternation_decided s formed members = decide_exactly s members formed

-- Every attribute has exactly one letter.
pub letter_exists_once : (s : Scheme) → Formed s → (a : ℕ) → (l : Letter) × Lettered s a l × ((k : Letter) → Lettered s a k → k ≡ l)
letter_exists_once s formed a = exactly_one s formed a

-- A scheme has exactly one row of letters.
pub plan_exists : (s : Scheme) → Formed s → (ls : List Letter) × Planned s ls
plan_exists s formed = (plan_of s, plan_fits s formed)

pub plan_determined : (s : Scheme) → Formed s → (ls ks : List Letter) → Planned s ls → Planned s ks → ls ≡ ks
plan_determined s formed ls ks h k = plan_unique s formed ls ks h k

-- STACKS AND SECTIONS (folder Spans)

-- The test says that an attribute stacks exactly where its spans are stack-like in every production.
pub stack_conditions : (s : Scheme) (a : ℕ) (b : Attribute) → (stacks s a b ≡ true) ↔ ((n : ℕ) (p : Production) → Has s.productions n p → StackLike s a b p)
stack_conditions s a b = (stacks_told s a b, stacks_tested s a b)

-- The last section that reads an attribute is the greatest of those that do, and no less than its visit; the first that gives it its value is the least, and no
-- greater.
pub last_section_is : (s : Scheme) (x a j : ℕ) → Last s x a j (last_section x a j s.productions)
last_section_is s x a j = last_is s x a j

pub first_section_is : (s : Scheme) (x a j : ℕ) → First s x a j (first_section x a j s.productions)
first_section_is s x a j = first_is s x a j

-- In a lawful scheme an attribute of the left symbol is read in the section of its visit or later, and given its value in that section or earlier.
pub used_from : (s : Scheme) → Lawful s → (a n t : ℕ) (b : Attribute) (p : Production) (st : Step) → Has s.attributes a b → Has s.productions n p → Has p.steps t st → uses p st (own a) ≡ true → b.visit ≤ section p t
used_from s law a n t b p st at is h u = sections.used_from s law a n t b p st at is h u

pub evaluated_by : (s : Scheme) → Lawful s → Formed s → (a n t : ℕ) (b : Attribute) (p : Production) (st : Step) → Has s.attributes a b → Has s.productions n p → Has p.steps t st → defines p st (own a) ≡ true → section p t ≤ b.visit
evaluated_by s law formed a n t b p st at is h u = sections.evaluated_by s law formed a n t b p st at is h u
