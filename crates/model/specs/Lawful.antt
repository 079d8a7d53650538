-- The rules that a scheme's symbols and productions keep, besides the form of its words. Assumes nothing.
use Rattle.std.specs.Prelude.{◌≡◌, ℕ, suc, ◌<◌, ◌≤◌, Bool, false, ◌&&◌, T, List, reverse, length, take, ◌==◌}
use Rattle.model.specs.Lists.{Has, any, count, from_on}
use Rattle.model.specs.Scheme.{Side, inherited, synthesized, Occurrence, Step, eval, visit, leave, Production, Scheme, same_occurrence}
use Rattle.model.specs.Sequences.{is_leave, section, visit_numbers, leave_numbers, uses, defines}

-- attribute a of the scheme is one of symbol x, on that side, for visit j
abbrev pub Of : Scheme → ℕ → ℕ → Side → ℕ → Type 0
Of s a x d j = Has s.attributes a (record { symbol = x; side = d; visit = j })

-- o is a position of the production with an attribute of its symbol; synthesized at the left symbol and inherited at a child are defined here, the rest are used
pub data Defined (s : Scheme) (p : Production) : Occurrence → Type 0 where
  above : {a j : ℕ} → Of s a p.left synthesized j → Defined s p (record { position = 0; attribute = a })
  below : {k x a j : ℕ} → Has p.children k x → Of s a x inherited j → Defined s p (record { position = suc k; attribute = a })

pub data Used (s : Scheme) (p : Production) : Occurrence → Type 0 where
  above : {a j : ℕ} → Of s a p.left inherited j → Used s p (record { position = 0; attribute = a })
  below : {k x a j : ℕ} → Has p.children k x → Of s a x synthesized j → Used s p (record { position = suc k; attribute = a })

-- exactly one place of xs has the property
abbrev pub Once {ℓ} : {A : Type ℓ} → (A → Bool) → List A → Type 0
Once f xs = count f xs ≡ 1

-- each defined occurrence has exactly one rule
abbrev pub Ruled : Scheme → Production → Type 0
Ruled s p = (o : Occurrence) → Defined s p o → Once (λ r. same_occurrence o r.target) p.rules

abbrev pub is_eval_of : ℕ → Step → Bool
is_eval_of n (eval r) = n == r
is_eval_of n (visit k j) = false
is_eval_of n (leave i) = false

-- each rule has exactly one EVAL
abbrev pub Evaluated : Production → Type 0
Evaluated p = (r : ℕ) → r < length p.rules → Once (is_eval_of r) p.steps

-- a child's visits and the leaves come each once and rising, and the last step is a LEAVE
pub record Sequenced (s : Scheme) (p : Production) : Type 0 where
  pub children_visited : (k x v : ℕ) → Has p.children k x → Has s.visits x v → visit_numbers (suc k) p.steps ≡ from_on 1 v
  pub left_sections : (v : ℕ) → Has s.visits p.left v → leave_numbers p.steps ≡ from_on 1 v
  pub ends_with_leave : count is_leave (take 1 (reverse p.steps)) ≡ 1

-- a step before t defines o
abbrev pub Before : Production → ℕ → Occurrence → Type 0
Before p t o = T (any (λ st. defines p st o) (take t p.steps))

-- a step before t is VISIT k j
abbrev pub is_visit : ℕ → ℕ → Step → Bool
is_visit c i (eval r) = false
is_visit c i (visit k j) = c == k && i == j
is_visit c i (leave n) = false

-- the value of the occurrence is known before step t: an inherited one of the left symbol from the section of its visit on, a synthesized one of a child
-- after the VISIT of its number
pub data Known (s : Scheme) (p : Production) (t : ℕ) : Occurrence → Type 0 where
  given : {a j : ℕ} → Of s a p.left inherited j → j ≤ section p t → Known s p t (record { position = 0; attribute = a })
  visited : {k x a j : ℕ} → Has p.children k x → Of s a x synthesized j → T (any (is_visit (suc k) j) (take t p.steps)) → Known s p t (record { position = suc k; attribute = a })

-- What step t needs is known by then: an EVAL's arguments; what a child inherits for the visit that it is sent to; what the left symbol gives back at the end
-- of a visit.
pub record Ordered (s : Scheme) (p : Production) (t : ℕ) : Type 0 where
  pub arguments_known : (st : Step) → Has p.steps t st → (o : Occurrence) → T (uses p st o) → Known s p t o
  pub ready_to_visit : (k x j a : ℕ) → Has p.steps t (visit (suc k) j) → Has p.children k x → Of s a x inherited j → Before p t (record { position = suc k; attribute = a })
  pub ready_to_leave : (i a : ℕ) → Has p.steps t (leave i) → Of s a p.left synthesized i → Before p t (record { position = 0; attribute = a })

-- a symbol that derives a finite tree
pub data Finite (s : Scheme) : ℕ → Type 0 where
  by : (n : ℕ) (p : Production) → Has s.productions n p → ((k x : ℕ) → Has p.children k x → Finite s x) → Finite s p.left

-- a symbol that symbol 0 can reach
pub data Reached (s : Scheme) : ℕ → Type 0 where
  root : Reached s 0
  under : (n k x : ℕ) (p : Production) → Has s.productions n p → Reached s p.left → Has p.children k x → Reached s x

-- every rule
pub record Lawful (s : Scheme) : Type 0 where
  pub root_visits : Has s.visits 0 1
  pub root_inherits_nothing : (a j : ℕ) → Of s a 0 inherited j → ⊥
  pub root_no_child : (n k : ℕ) (p : Production) → Has s.productions n p → Has p.children k 0 → ⊥
  pub finite : (x v : ℕ) → Has s.visits x v → Finite s x
  pub reached : (x v : ℕ) → Has s.visits x v → Reached s x
  pub ruled : (n : ℕ) (p : Production) → Has s.productions n p → Ruled s p
  pub evaluated : (n : ℕ) (p : Production) → Has s.productions n p → Evaluated p
  pub sequenced : (n : ℕ) (p : Production) → Has s.productions n p → Sequenced s p
  pub ordered : (n t : ℕ) (p : Production) → Has s.productions n p → Ordered s p t
