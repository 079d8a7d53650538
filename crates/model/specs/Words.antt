-- A scheme's words: how each thing is written in 32 bits, and how a row of words is read one by one. Assumes nothing.
use Rattle.std.specs.Prelude.{ℕ, zero, suc, ◌+◌, ◌-◌, ◌*◌, ◌/◌, ◌%◌, ◌^◌, Bool, true, false, cond, not, ◌&&◌, ◌||◌, List, [], ◌∷◌, ◌++◌, map, length, ◌==◌, nat_eq, nat_le, nat_lt}
use Rattle.std.proofs.Math.Option.{Option, none, some}
use Rattle.std.proofs.Math.ListN.{get_elem?}
use Rattle.model.specs.Lists.{any, count, keep}
use Rattle.model.specs.Scheme.{Side, inherited, synthesized, Attribute, Occurrence, Rule, Step, Production, Scheme, symbol_at}
use Rattle.model.specs.Scheme as Made

-- what one word says
pub data Form : Type 0 where
  symbol : (visits : ℕ) → Form
  attribute : (side visit : ℕ) → Form
  production : (left count : ℕ) → Form
  child : (symbol : ℕ) → Form
  rule : (number position attribute count : ℕ) → Form
  argument : (position attribute : ℕ) → Form
  eval : (rule : ℕ) → Form
  visit : (child number : ℕ) → Form
  leave : (number : ℕ) → Form
  end : Form

-- the word that says it: the kind in the top four bits, the fields where each has its place, all other bits zero
abbrev pub written : Form → ℕ
written (symbol v) = 1 * 2 ^ 28 + v * 2 ^ 24
written (attribute d j) = 2 * 2 ^ 28 + d * 2 ^ 24 + j * 2 ^ 20
written (production x c) = 3 * 2 ^ 28 + x * 2 ^ 20 + c * 2 ^ 16
written (child x) = 4 * 2 ^ 28 + x * 2 ^ 20
written (rule n k a c) = 5 * 2 ^ 28 + n * 2 ^ 20 + k * 2 ^ 16 + a * 2 ^ 8 + c * 2 ^ 4
written (argument k a) = 6 * 2 ^ 28 + k * 2 ^ 24 + a * 2 ^ 16
written (eval r) = 7 * 2 ^ 28 + r * 2 ^ 20
written (visit k j) = 8 * 2 ^ 28 + k * 2 ^ 24 + j * 2 ^ 20
written (leave i) = 9 * 2 ^ 28 + i * 2 ^ 24
written end = 15 * 2 ^ 28

-- each field lies in its range
abbrev pub between : ℕ → ℕ → ℕ → Bool
between low high n = nat_le low n && nat_le n high

abbrev pub in_range : Form → Bool
in_range (symbol v) = between 1 4 v
in_range (attribute d j) = between 0 1 d && between 1 4 j
in_range (production x c) = between 0 255 x && between 0 6 c
in_range (child x) = between 0 255 x
in_range (rule n k a c) = between 0 255 n && (between 0 6 k && (between 0 255 a && between 0 3 c))
in_range (argument k a) = between 0 6 k && between 0 255 a
in_range (eval r) = between 0 255 r
in_range (visit k j) = between 1 6 k && between 1 4 j
in_range (leave i) = between 1 4 i
in_range end = true

-- n bits of a word from bit `low` on
abbrev pub field : ℕ → ℕ → ℕ → ℕ
field w low n = (w / 2 ^ low) % 2 ^ n

abbrev pub kind : ℕ → ℕ
kind w = w / 2 ^ 28

-- the fields of a word, by its kind; the word is well made where writing them gives it back
abbrev pub fields : ℕ → ℕ → Option Form
fields zero w = none
fields (suc zero) w = some (symbol (field w 24 4))
fields (suc (suc zero)) w = some (attribute (field w 24 4) (field w 20 4))
fields (suc (suc (suc zero))) w = some (production (field w 20 8) (field w 16 4))
fields (suc (suc (suc (suc zero)))) w = some (child (field w 20 8))
fields (suc (suc (suc (suc (suc zero))))) w = some (rule (field w 20 8) (field w 16 4) (field w 8 8) (field w 4 4))
fields (suc (suc (suc (suc (suc (suc zero)))))) w = some (argument (field w 24 4) (field w 16 8))
fields (suc (suc (suc (suc (suc (suc (suc zero))))))) w = some (eval (field w 20 8))
fields (suc (suc (suc (suc (suc (suc (suc (suc zero)))))))) w = some (visit (field w 24 4) (field w 20 4))
fields (suc (suc (suc (suc (suc (suc (suc (suc (suc zero))))))))) w = some (leave (field w 24 4))
fields (suc (suc (suc (suc (suc (suc (suc (suc (suc (suc n)))))))))) w = cond (n == 5) (some end) none

-- what may come next
pub data Next : Type 0 where
  first_symbol : Next
  symbols : Next
  children : (left : ℕ) → Next
  rules : Next
  arguments : (left : ℕ) → Next
  steps : Next
  nothing : Next

-- the kinds of word that may come next
abbrev pub kinds : Next → List ℕ
kinds first_symbol = 1 ∷ []
kinds symbols = 1 ∷ 2 ∷ 3 ∷ []
kinds (children n) = 4 ∷ []
kinds rules = 5 ∷ 7 ∷ 8 ∷ 9 ∷ []
kinds (arguments n) = 6 ∷ []
kinds steps = 3 ∷ 7 ∷ 8 ∷ 9 ∷ 15 ∷ []
kinds nothing = []

-- A scheme as far as it has been read. The production that is being read stands apart, with its parts in order.
pub record Sofar : Type 0 where
  pub visits : List ℕ
  pub attributes : List Attribute
  pub whole : List Production
  pub current : Production
  pub next : Next

-- what stands for the current production where none has begun
abbrev pub no_production : Production
no_production = record { left = 0; children = []; rules = []; steps = [] }

-- nothing has been read
abbrev pub at_first : Sofar
at_first = record { visits = []; attributes = []; whole = []; current = no_production; next = first_symbol }

-- how many productions have begun
abbrev pub begun : Sofar → Next → ℕ
begun q first_symbol = 0
begun q symbols = 0
begun q (children n) = suc (length q.whole)
begun q rules = suc (length q.whole)
begun q (arguments n) = suc (length q.whole)
begun q steps = suc (length q.whole)
begun q nothing = suc (length q.whole)

-- one more word of this form passes a limit
abbrev pub passes_limit : Sofar → Form → Bool
passes_limit q (symbol v) = nat_le 32 (length q.visits)
passes_limit q (attribute d j) = nat_le 16 (count (λ a. nat_eq (suc a.symbol) (length q.visits)) q.attributes) || nat_le 128 (length q.attributes)
passes_limit q (production x c) = nat_le 64 (begun q q.next)
passes_limit q (child x) = false
passes_limit q (rule n k a c) = nat_le 32 (length q.current.rules)
passes_limit q (argument k a) = false
passes_limit q (eval r) = nat_le 64 (length q.current.steps)
passes_limit q (visit k j) = nat_le 64 (length q.current.steps)
passes_limit q (leave i) = nat_le 64 (length q.current.steps)
passes_limit q end = false

-- a visit is not above the last one, which is there
abbrev pub within : ℕ → Option ℕ → Bool
within j none = false
within j (some v) = nat_le j v

abbrev pub visits_at : Sofar → Option ℕ → Option ℕ
visits_at q none = none
visits_at q (some x) = get_elem? q.visits x

-- the attribute is there, and is one of the symbol, which is there too
abbrev pub belongs : Option ℕ → Option Attribute → Bool
belongs none b = false
belongs (some x) none = false
belongs (some x) (some b) = x == b.symbol

-- what the word speaks of is there
abbrev pub present : Sofar → Form → Bool
present q (symbol v) = true
present q (attribute d j) = within j (get_elem? q.visits (length q.visits - 1))
present q (production x c) = nat_lt x (length q.visits)
present q (child x) = nat_lt x (length q.visits)
present q (rule n k a c) = belongs (symbol_at q.current k) (get_elem? q.attributes a)
present q (argument k a) = belongs (symbol_at q.current k) (get_elem? q.attributes a)
present q (eval r) = nat_lt r (length q.current.rules)
present q (visit k j) = within j (visits_at q (symbol_at q.current k))
present q (leave i) = within i (get_elem? q.visits q.current.left)
present q end = true

abbrev pub is_inherited : Option Attribute → Bool
is_inherited none = false
is_inherited (some b) = go b.side
  where
    go : Side → Bool
    go inherited = true
    go synthesized = false

-- synthesized at the left symbol and inherited at a child are defined, the rest are used
abbrev pub defined_here : ℕ → Option Attribute → Bool
defined_here k b = cond (k == 0) (not (is_inherited b)) (is_inherited b)

-- a rule's target is a defined occurrence, an argument a used one
abbrev pub right_sort : Sofar → Form → Bool
right_sort q (symbol v) = true
right_sort q (attribute d j) = true
right_sort q (production x c) = true
right_sort q (child x) = true
right_sort q (rule n k a c) = defined_here k (get_elem? q.attributes a)
right_sort q (argument k a) = not (defined_here k (get_elem? q.attributes a))
right_sort q (eval r) = true
right_sort q (visit k j) = true
right_sort q (leave i) = true
right_sort q end = true

abbrev pub after_children : ℕ → Next
after_children zero = rules
after_children (suc n) = children (suc n)

abbrev pub after_arguments : ℕ → Next
after_arguments zero = rules
after_arguments (suc n) = arguments (suc n)

-- what may come after a child or an argument
abbrev pub one_less : Next → Next
one_less first_symbol = first_symbol
one_less symbols = symbols
one_less (children n) = after_children (n - 1)
one_less rules = rules
one_less (arguments n) = after_arguments (n - 1)
one_less steps = steps
one_less nothing = nothing

-- the productions that are whole once another one begins, or the scheme ends
abbrev pub closed : Sofar → List Production
closed q = cond (nat_le (begun q q.next) 0) q.whole (q.whole ++ (q.current ∷ []))

abbrev pub numbered_side : ℕ → Side
numbered_side zero = inherited
numbered_side (suc n) = synthesized

-- one more argument of the last rule
abbrev pub with_argument : Occurrence → List Rule → List Rule
with_argument o [] = []
with_argument o (r ∷ []) = record { number = r.number; target = r.target; arguments = r.arguments ++ (o ∷ []) } ∷ []
with_argument o (r ∷ s ∷ rs) = r ∷ with_argument o (s ∷ rs)

-- one more step of the current production
abbrev pub with_step : Sofar → Step → Sofar
with_step q st = record {
  visits = q.visits;
  attributes = q.attributes;
  whole = q.whole;
  current = record { left = q.current.left; children = q.current.children; rules = q.current.rules; steps = q.current.steps ++ (st ∷ []) };
  next = steps;
}

-- the scheme with one more word
abbrev pub taken : Sofar → Form → Sofar
taken q (symbol v) = record { visits = q.visits ++ (v ∷ []); attributes = q.attributes; whole = q.whole; current = q.current; next = symbols }
taken q (attribute d j) = record { visits = q.visits; attributes = q.attributes ++ (record { symbol = length q.visits - 1; side = numbered_side d; visit = j } ∷ []); whole = q.whole; current = q.current; next = symbols }
taken q (production x c) = record { visits = q.visits; attributes = q.attributes; whole = closed q; current = record { left = x; children = []; rules = []; steps = [] }; next = after_children c }
taken q (child x) = record {
  visits = q.visits;
  attributes = q.attributes;
  whole = q.whole;
  current = record { left = q.current.left; children = q.current.children ++ (x ∷ []); rules = q.current.rules; steps = q.current.steps };
  next = one_less q.next;
}
taken q (rule n k a c) = record {
  visits = q.visits;
  attributes = q.attributes;
  whole = q.whole;
  current = record { left = q.current.left; children = q.current.children; rules = q.current.rules ++ (record { number = n; target = record { position = k; attribute = a }; arguments = [] } ∷ []); steps = q.current.steps };
  next = after_arguments c;
}
taken q (argument k a) = record {
  visits = q.visits;
  attributes = q.attributes;
  whole = q.whole;
  current = record { left = q.current.left; children = q.current.children; rules = with_argument (record { position = k; attribute = a }) q.current.rules; steps = q.current.steps };
  next = one_less q.next;
}
taken q (eval r) = with_step q (Made.eval r)
taken q (visit k j) = with_step q (Made.visit k j)
taken q (leave i) = with_step q (Made.leave i)
taken q end = record { visits = q.visits; attributes = q.attributes; whole = closed q; current = no_production; next = nothing }

-- the first cause for refusal, in the order of checking: the kind is out of order, a limit is passed, the word is not well made, a thing is absent, the
-- occurrence is of the wrong sort
abbrev pub first_cause : (in_order over-limit well_made here sorted : Bool) → Option ℕ
first_cause in_order over-limit well_made here sorted =
    cond (not in_order) (some 3)
    (cond over-limit (some 4)
    (cond (not well_made) (some 5)
    (cond (not here) (some 6)
    (cond (not sorted) (some 7) none))))

-- each field of the word is in its range, and no other bit is set
abbrev pub well_made : Form → ℕ → Bool
well_made f w = in_range f && written f == w

-- the first number that the word gives cause for
abbrev pub judged : Sofar → ℕ → Option Form → Option ℕ
judged q w none = some 3
judged q w (some f) = first_cause (any (nat_eq (kind w)) (kinds q.next)) (passes_limit q f) (well_made f w) (present q f) (right_sort q f)

abbrev pub objection : Sofar → ℕ → Option ℕ
objection q w = judged q w (fields (kind w) w)

-- a scheme, or the number and the word at which reading stopped
pub data Read : Type 0 where
  scheme : Scheme → Read
  stopped : (number word : ℕ) → Read

-- the end word has been read
abbrev pub finished : Next → Bool
finished first_symbol = false
finished symbols = false
finished (children n) = false
finished rules = false
finished (arguments n) = false
finished steps = false
finished nothing = true

abbrev pub accepted : Sofar → Option Form → Sofar
accepted q none = q
accepted q (some f) = taken q f

-- the words from place i on, after what has been read
abbrev pub read_from : List ℕ → ℕ → Sofar → Read
read_from [] i q = cond (finished q.next) (scheme (record { visits = q.visits; attributes = q.attributes; productions = q.whole })) (stopped 3 i)
read_from (w ∷ ws) i q = elim (objection q w) [ none ↦ read_from ws (suc i) (accepted q (fields (kind w) w)) | some n ↦ stopped n i ]

-- each word in turn
abbrev pub read : List ℕ → Read
read ws = read_from ws 0 at_first

-- the words of some bytes, four a word and the high byte first; what is left of fewer than four bytes is no word
abbrev pub from_bytes : List ℕ → List ℕ
from_bytes [] = []
from_bytes (a ∷ []) = []
from_bytes (a ∷ b ∷ []) = []
from_bytes (a ∷ b ∷ c ∷ []) = []
from_bytes (a ∷ b ∷ c ∷ d ∷ bs) = (a * 2 ^ 24 + b * 2 ^ 16 + c * 2 ^ 8 + d) ∷ from_bytes bs

-- The words that write a scheme: each symbol and then its attributes, each production and then its children, its rules, each with its arguments, and its
-- steps, and last the end.
abbrev pub side_number : Side → ℕ
side_number inherited = 0
side_number synthesized = 1

abbrev pub attribute_word : Attribute → ℕ
attribute_word b = written (attribute (side_number b.side) b.visit)

-- the symbols from number x on
abbrev pub symbol_words : ℕ → List ℕ → List Attribute → List ℕ
symbol_words x [] bs = []
symbol_words x (v ∷ vs) bs = written (symbol v) ∷ (map attribute_word (keep (λ b. nat_eq b.symbol x) bs) ++ symbol_words (suc x) vs bs)

abbrev pub child_word : ℕ → ℕ
child_word x = written (child x)

abbrev pub argument_word : Occurrence → ℕ
argument_word o = written (argument o.position o.attribute)

-- the rule's own word, with so many arguments
abbrev pub rule_word : Rule → ℕ → ℕ
rule_word r c = written (rule r.number r.target.position r.target.attribute c)

abbrev pub rule_words : List Rule → List ℕ
rule_words [] = []
rule_words (r ∷ rs) = rule_word r (length r.arguments) ∷ (map argument_word r.arguments ++ rule_words rs)

abbrev pub step_word : Step → ℕ
step_word (Made.eval r) = written (eval r)
step_word (Made.visit k j) = written (visit k j)
step_word (Made.leave i) = written (leave i)

abbrev pub production_words : List Production → List ℕ
production_words [] = []
production_words (p ∷ ps) = written (production p.left (length p.children)) ∷ (map child_word p.children ++ (rule_words p.rules ++ (map step_word p.steps ++ production_words ps)))

abbrev pub words_of : Scheme → List ℕ
words_of s = symbol_words 0 s.visits s.attributes ++ (production_words s.productions ++ (written end ∷ []))
