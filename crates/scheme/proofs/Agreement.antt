-- What reading finds is determined by the words, and so is its answer, but for want of memory. Assumes nothing.
use Rattle.std.proofs.Common.{◌≡◌, ℕ, ◌-◌, ◌<◌, ◌⊎◌, List, [], ◌∷◌, length, get_or, Ok, Err, Result, sym, refl, ap, ◌∙◌, subst, inl, inr, arith}
use Rattle.model.specs.Scheme as Model
use Rattle.model.specs.Checking.{Check, root, finite, reached, ruled, evaluated, sequenced, ordered, FirstBroken}
use Rattle.model.specs.Words.{Read, scheme, stopped, read}
use Rattle.model.proofs.Main.{first_broken_once, lawful_unbroken}
use Rattle.grammar.specs.declared.refusal.Refusal.{Refusal}
use Rattle.grammar.specs.declared.refusal.Refusal.TheVariants.{Memory, UnevenBytes, NoWords, TooManyWords, OutOfOrder, OverLimit, BadField, Absent, WrongSort, BadRoot, NoFiniteTree, OutOfReach, NotRuledOnce, NotEvaluatedOnce, BadSequence, TooEarly}
use Rattle.scheme.specs.declared.scheme.Scheme.{Scheme}
use Rattle.scheme.specs.Verdicts.{Accepted, SaidButBroken, Stopped, Refused}
use Rattle.scheme.specs.Whole.{scheme_of, Judged}
use Rattle.scheme.specs.Agreement.{Agree}

-- what some words can be found to be
data Finding : Type 0 where
  none : Finding
  too_many : Finding
  stops : (number word : ℕ) → Finding
  breaks : (rule : Check) → Finding

abbrev Found : List ℕ → Finding → Type 0
Found ws none = length ws ≡ 0
Found ws too_many = 4096 < length ws
Found ws (stops number word) = Stopped ws number word
Found ws (breaks c) = SaidButBroken ws c

-- the refusal for it
abbrev of_rule : Check → Refusal
of_rule root = BadRoot 0
of_rule (finite x) = NoFiniteTree x
of_rule (reached x) = OutOfReach x
of_rule (ruled n) = NotRuledOnce n
of_rule (evaluated n) = NotEvaluatedOnce n
of_rule (sequenced n) = BadSequence n
of_rule (ordered n t) = TooEarly n t

abbrev refusal : Finding → Refusal
refusal none = NoWords
refusal too_many = TooManyWords
refusal (stops number word) = get_or (OutOfOrder word ∷ OverLimit word ∷ BadField word ∷ Absent word ∷ WrongSort word ∷ []) (number - 3) Memory
refusal (breaks c) = of_rule c

-- every refusal but want of memory is for something found
record Cause (ws : List ℕ) (e : Refusal) : Type 0 where
  finding : Finding
  found : Found ws finding
  gives : refusal finding ≡ e

cause : (ws : List ℕ) (e : Refusal) → Refused ws e → Cause ws e ⊎ (e ≡ Memory)
cause ws Memory h = inr refl
cause ws UnevenBytes h = absurd h
cause ws NoWords h = inl (record { finding = none; found = h; gives = refl })
cause ws TooManyWords h = inl (record { finding = too_many; found = h; gives = refl })
cause ws (OutOfOrder w) h = inl (record { finding = stops 3 w; found = h; gives = refl })
cause ws (OverLimit w) h = inl (record { finding = stops 4 w; found = h; gives = refl })
cause ws (BadField w) h = inl (record { finding = stops 5 w; found = h; gives = refl })
cause ws (Absent w) h = inl (record { finding = stops 6 w; found = h; gives = refl })
cause ws (WrongSort w) h = inl (record { finding = stops 7 w; found = h; gives = refl })
cause ws (BadRoot x) h = inl (record { finding = breaks root; found = h.1; gives = λ i. BadRoot (sym h.0 i) })
cause ws (NoFiniteTree x) h = inl (record { finding = breaks (finite x); found = h; gives = refl })
cause ws (OutOfReach x) h = inl (record { finding = breaks (reached x); found = h; gives = refl })
cause ws (NotRuledOnce n) h = inl (record { finding = breaks (ruled n); found = h; gives = refl })
cause ws (NotEvaluatedOnce n) h = inl (record { finding = breaks (evaluated n); found = h; gives = refl })
cause ws (BadSequence n) h = inl (record { finding = breaks (sequenced n); found = h; gives = refl })
cause ws (TooEarly n t) h = inl (record { finding = breaks (ordered n t); found = h; gives = refl })

-- reading does not both stop and say a scheme, and says or stops at one thing
not_both : (r : Read) (s : Model.Scheme) (n w : ℕ) → r ≡ scheme s → r ≡ stopped n w → ⊥
not_both r s n w e f = let z : ◌≡◌ {A = ℕ} 0 1 = cc (e, f) in omega arith

one_scheme : (r : Read) (s t : Model.Scheme) → r ≡ scheme s → r ≡ scheme t → s ≡ t
one_scheme r s t e f = cc (e, f)

one_stop : (r : Read) (n w m v : ℕ) → r ≡ stopped n w → r ≡ stopped m v → stops n w ≡ stops m v
one_stop r n w m v e f =
    let p : n ≡ m = cc (e, f) in
    let q : w ≡ v = cc (e, f) in
    λ i. stops (p i) (q i)

one_rule : (ws : List ℕ) (c d : Check) → SaidButBroken ws c → SaidButBroken ws d → c ≡ d
one_rule ws c d h k =
    let e = one_scheme (read ws) k.said_scheme h.said_scheme k.said h.said in
    first_broken_once h.said_scheme c d h.first (subst (λ (s : Model.Scheme). FirstBroken s d) e k.first)

-- words are found to be one thing
one_finding : (ws : List ℕ) (f g : Finding) → Found ws f → Found ws g → f ≡ g
one_finding ws none none h k = refl
one_finding ws none too_many h k = absurd (omega arith)
one_finding ws none (stops m v) h k = absurd (omega (arith, k.0.0))
one_finding ws none (breaks d) h k = absurd (omega (arith, k.sized.0))
one_finding ws too_many none h k = absurd (omega arith)
one_finding ws too_many too_many h k = refl
one_finding ws too_many (stops m v) h k = absurd (omega (arith, k.0.1))
one_finding ws too_many (breaks d) h k = absurd (omega (arith, k.sized.1))
one_finding ws (stops n w) none h k = absurd (omega (arith, h.0.0))
one_finding ws (stops n w) too_many h k = absurd (omega (arith, h.0.1))
one_finding ws (stops n w) (stops m v) h k = one_stop (read ws) n w m v h.1 k.1
one_finding ws (stops n w) (breaks d) h k = absurd (not_both (read ws) k.said_scheme n w k.said h.1)
one_finding ws (breaks c) none h k = absurd (omega (arith, h.sized.0))
one_finding ws (breaks c) too_many h k = absurd (omega (arith, h.sized.1))
one_finding ws (breaks c) (stops m v) h k = absurd (not_both (read ws) h.said_scheme m v h.said k.1)
one_finding ws (breaks c) (breaks d) h k = ap breaks (one_rule ws c d h k)

-- of words that are accepted nothing is found
accepted-clear : (ws : List ℕ) (s : Model.Scheme) → Accepted ws s → (f : Finding) → Found ws f → ⊥
accepted-clear ws s a none h = omega (arith, a.sized.0)
accepted-clear ws s a too_many h = omega (arith, a.sized.1)
accepted-clear ws s a (stops n w) h = not_both (read ws) s n w a.said h.1
accepted-clear ws s a (breaks c) h =
    let e = one_scheme (read ws) h.said_scheme s h.said a.said in
    lawful_unbroken s c a.lawful (subst (λ (t : Model.Scheme). FirstBroken t c) e h.first)

accepted_refused : (ws : List ℕ) (s : Model.Scheme) (e : Refusal) → Accepted ws s → Refused ws e → e ≡ Memory
accepted_refused ws s e a h = go (cause ws e h)
  where
    go : Cause ws e ⊎ (e ≡ Memory) → e ≡ Memory
    go (inl c) = absurd (accepted-clear ws s a c.finding c.found)
    go (inr m) = m

both_refused : (ws : List ℕ) (e f : Refusal) → Refused ws e → Refused ws f → (e ≡ f) ⊎ ((e ≡ Memory) ⊎ (f ≡ Memory))
both_refused ws e f h k = go (cause ws e h) (cause ws f k)
  where
    go : Cause ws e ⊎ (e ≡ Memory) → Cause ws f ⊎ (f ≡ Memory) → (e ≡ f) ⊎ ((e ≡ Memory) ⊎ (f ≡ Memory))
    go (inl c) (inl d) = inl (sym c.gives ∙ ap refusal (one_finding ws c.finding d.finding c.found d.found) ∙ d.gives)
    go (inl c) (inr m) = inr (inr m)
    go (inr m) (inl d) = inr (inl m)
    go (inr m) (inr n) = inr (inl m)

pub one_answer : (ws : List ℕ) (r t : Result Scheme Refusal) → Judged ws r → Judged ws t → Agree r t
one_answer ws (Ok s) (Ok t) h k = one_scheme (read ws) (scheme_of s) (scheme_of t) h.said k.said
one_answer ws (Ok s) (Err f) h k = accepted_refused ws (scheme_of s) f h k
one_answer ws (Err e) (Ok t) h k = accepted_refused ws (scheme_of t) e k h
one_answer ws (Err e) (Err f) h k = both_refused ws e f h k
