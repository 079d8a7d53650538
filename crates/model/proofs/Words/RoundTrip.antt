-- A scheme that is read from words is written by those words and no others. Assumes nothing.
use Rattle.std.proofs.Common.{◌≡◌, ℕ, zero, suc, ◌+◌, ◌-◌, ◌<◌, ◌≤◌, Bool, true, false, cond, ◌&&◌, ◌||◌, T, eqb, leb, List, [], ◌∷◌, ◌++◌, map, length, sym, refl, ap, ◌∙◌, subst, append_assoc, append-nil, not-suc-le-zero, add-zero, zero-add, arith, eqb→eq, leb→le, length-append}
use mathlib.Core.Option.{Option, none, some}
use lib.Dec.{leb-suc-zero, eqb_refl}
use lib.ListN.{get_elem?}
use Rattle.model.specs.Lists.{Has, any, keep}
use Rattle.model.specs.Scheme.{Attribute, Occurrence, Rule, Step, eval, visit, leave, Production, Scheme}
use Rattle.model.specs.Words.{Form, written, kind, fields, Next, kinds, Sofar, at_first, begun, within, after_children, after_arguments, one_less, numbered_side, with_argument, taken, objection, Read, scheme, stopped, finished, accepted, read_from, read, side_number, attribute_word, symbol_words, child_word, argument_word, rule_word, rule_words, step_word, production_words, words_of}
use Rattle.model.proofs.Common.ListFacts.{and_l, and_r, true_of, false_of, has-below}
use Rattle.model.proofs.Words.Accepts.{Accepted, accepted_of}
use Rattle.model.proofs.Words.ReadForm.{early, Good, taken_good, first_good, stopped-scheme, scheme-same}

-- lists
module _ {A : Type 0} where
  map-append : {B : Type 0} (f : A → B) (xs ys : List A) → map f (xs ++ ys) ≡ map f xs ++ map f ys
  map-append {B} f [] ys = refl
  map-append {B} f (x ∷ xs) ys = ap (λ (l : List B). f x ∷ l) (map-append f xs ys)

  keep_hit : (f : A → Bool) (xs : List A) (b : A) → f b ≡ true → keep f (xs ++ (b ∷ [])) ≡ keep f xs ++ (b ∷ [])
  keep_hit f [] b e = rw e
  keep_hit f (x ∷ xs) b e = go (f x) (keep_hit f xs b e)
    where
      go : (t : Bool) → keep f (xs ++ (b ∷ [])) ≡ keep f xs ++ (b ∷ []) → cond t (x ∷ keep f (xs ++ (b ∷ []))) (keep f (xs ++ (b ∷ []))) ≡ cond t (x ∷ keep f xs) (keep f xs) ++ (b ∷ [])
      go true ih = ap (λ (l : List A). x ∷ l) ih
      go false ih = ih

  keep_miss : (f : A → Bool) (xs : List A) (b : A) → f b ≡ false → keep f (xs ++ (b ∷ [])) ≡ keep f xs
  keep_miss f [] b e = rw e
  keep_miss f (x ∷ xs) b e = ap (λ (l : List A). cond (f x) (x ∷ l) l) (keep_miss f xs b e)

  keep_none : (f : A → Bool) (xs : List A) → ((i : ℕ) (x : A) → Has xs i x → f x ≡ false) → keep f xs ≡ []
  keep_none f [] h = refl
  keep_none f (x ∷ xs) h = rw (h 0 x refl) (keep_none f xs (λ i y e. h (suc i) y e))

-- the symbols' words, with one more symbol, or one more attribute of the last symbol
one_more_symbol : (x v : ℕ) (vs : List ℕ) (bs : List Attribute) → ((i : ℕ) (b : Attribute) → Has bs i b → b.symbol < x + length vs) → symbol_words x (vs ++ (v ∷ [])) bs ≡ symbol_words x vs bs ++ (written (Form.symbol v) ∷ [])
one_more_symbol x v [] bs below =
    let none-of-it = keep_none (λ (b : Attribute). eqb b.symbol x) bs (λ i b h. false_of (eqb b.symbol x) (λ e. let same = eqb→eq b.symbol x e in let l = below i b h in omega arith)) in
    ap (λ (l : List Attribute). written (Form.symbol v) ∷ (map attribute_word l ++ [])) none-of-it
one_more_symbol x v (u ∷ vs) bs below =
    let ih = one_more_symbol (suc x) v vs bs (λ i b h. let l = below i b h in omega arith) in
    ap (λ (l : List ℕ). written (Form.symbol u) ∷ (map attribute_word (keep (λ b. eqb b.symbol x) bs) ++ l)) ih
    ∙ ap (λ (l : List ℕ). written (Form.symbol u) ∷ l) (sym (append_assoc (map attribute_word (keep (λ b. eqb b.symbol x) bs)) (symbol_words (suc x) vs bs) (written (Form.symbol v) ∷ [])))

one_more_attribute : (x : ℕ) (vs : List ℕ) (bs : List Attribute) (b : Attribute) → suc b.symbol ≡ x + length vs → 1 ≤ length vs → symbol_words x vs (bs ++ (b ∷ [])) ≡ symbol_words x vs bs ++ (attribute_word b ∷ [])
one_more_attribute x [] bs b e l = absurd (not-suc-le-zero l)
one_more_attribute x (v ∷ []) bs b e l =
    let at : b.symbol ≡ x = omega arith in
    let hit = keep_hit (λ (c : Attribute). eqb c.symbol x) bs b (true_of (eqb b.symbol x) (subst (λ (z : ℕ). T (eqb b.symbol z)) at (eqb_refl b.symbol))) in
    ap (λ (l : List Attribute). written (Form.symbol v) ∷ (map attribute_word l ++ [])) hit
    ∙ ap (λ (l : List ℕ). written (Form.symbol v) ∷ l) (append-nil (map attribute_word (keep (λ c. eqb c.symbol x) bs ++ (b ∷ []))) ∙ map-append attribute_word (keep (λ c. eqb c.symbol x) bs) (b ∷ []) ∙ ap (λ (l : List ℕ). l ++ (attribute_word b ∷ [])) (sym (append-nil (map attribute_word (keep (λ c. eqb c.symbol x) bs)))))
one_more_attribute x (v ∷ u ∷ vs) bs b e l =
    let miss = keep_miss (λ (c : Attribute). eqb c.symbol x) bs b (false_of (eqb b.symbol x) (λ t. let at = eqb→eq b.symbol x t in omega arith)) in
    let ih = one_more_attribute (suc x) (u ∷ vs) bs b (omega arith) (omega arith) in
    ap (λ (l : List Attribute). written (Form.symbol v) ∷ (map attribute_word l ++ symbol_words (suc x) (u ∷ vs) (bs ++ (b ∷ [])))) miss
    ∙ ap (λ (l : List ℕ). written (Form.symbol v) ∷ (map attribute_word (keep (λ c. eqb c.symbol x) bs) ++ l)) ih
    ∙ ap (λ (l : List ℕ). written (Form.symbol v) ∷ l) (sym (append_assoc (map attribute_word (keep (λ c. eqb c.symbol x) bs)) (symbol_words (suc x) (u ∷ vs) bs) (attribute_word b ∷ [])))

-- the rules' words, where n arguments of the last rule are still to come
abbrev rules_so_far : List Rule → ℕ → List ℕ
rules_so_far [] n = []
rules_so_far (r ∷ []) n = rule_word r (length r.arguments + n) ∷ map argument_word r.arguments
rules_so_far (r ∷ y ∷ rs) n = rule_word r (length r.arguments) ∷ (map argument_word r.arguments ++ rules_so_far (y ∷ rs) n)

all_rules : (rs : List Rule) → rules_so_far rs 0 ≡ rule_words rs
all_rules [] = refl
all_rules (r ∷ []) = ap (λ (c : ℕ). rule_word r c ∷ map argument_word r.arguments) (add-zero (length r.arguments)) ∙ ap (λ (l : List ℕ). rule_word r (length r.arguments) ∷ l) (sym (append-nil (map argument_word r.arguments)))
all_rules (r ∷ y ∷ rs) = ap (λ (l : List ℕ). rule_word r (length r.arguments) ∷ (map argument_word r.arguments ++ l)) (all_rules (y ∷ rs))

one_more_rule : (rs : List Rule) (r : Rule) (c : ℕ) → r.arguments ≡ [] → rules_so_far (rs ++ (r ∷ [])) c ≡ rules_so_far rs 0 ++ (rule_word r c ∷ [])
one_more_rule [] r c e = ap (λ (l : List Occurrence). rule_word r (length l + c) ∷ map argument_word l) e ∙ ap (λ (z : ℕ). rule_word r z ∷ []) (zero-add c)
one_more_rule (y ∷ []) r c e =
    ap (λ (l : List ℕ). rule_word y (length y.arguments) ∷ (map argument_word y.arguments ++ l)) (one_more_rule [] r c e)
    ∙ ap (λ (z : ℕ). rule_word y z ∷ (map argument_word y.arguments ++ (rule_word r c ∷ []))) (sym (add-zero (length y.arguments)))
one_more_rule (y ∷ z ∷ rs) r c e =
    ap (λ (l : List ℕ). rule_word y (length y.arguments) ∷ (map argument_word y.arguments ++ l)) (one_more_rule (z ∷ rs) r c e)
    ∙ ap (λ (l : List ℕ). rule_word y (length y.arguments) ∷ l) (sym (append_assoc (map argument_word y.arguments) (rules_so_far (z ∷ rs) 0) (rule_word r c ∷ [])))

one_more_argument : (o : Occurrence) (rs : List Rule) (n : ℕ) → (rs ≡ [] → ⊥) → rules_so_far (with_argument o rs) n ≡ rules_so_far rs (suc n) ++ (argument_word o ∷ [])
one_more_argument o [] n some-rule = absurd (some-rule refl)
one_more_argument o (r ∷ []) n some-rule =
    let count : length (r.arguments ++ (o ∷ [])) + n ≡ length r.arguments + suc n = ap (λ (z : ℕ). z + n) (length-append r.arguments (o ∷ [])) ∙ omega arith in
    ap (λ (z : ℕ). rule_word r z ∷ map argument_word (r.arguments ++ (o ∷ []))) count
    ∙ ap (λ (l : List ℕ). rule_word r (length r.arguments + suc n) ∷ l) (map-append argument_word r.arguments (o ∷ []))
one_more_argument o (r ∷ y ∷ rs) n some-rule =
    grown (y ∷ rs) y rs refl (one_more_argument o (y ∷ rs) n (λ e. let z : ◌≡◌ {A = ℕ} 0 1 = cc in omega arith))
  where
    still : (o : Occurrence) (y : Rule) (rs : List Rule) → (z : Rule) × (zs : List Rule) × (with_argument o (y ∷ rs) ≡ z ∷ zs)
    still o y [] = (_, [], refl)
    still o y (x ∷ rs) = (y, _, refl)

    grown : (ys : List Rule) (y : Rule) (rs : List Rule) → ys ≡ y ∷ rs → rules_so_far (with_argument o (y ∷ rs)) n ≡ rules_so_far (y ∷ rs) (suc n) ++ (argument_word o ∷ []) → rules_so_far (r ∷ with_argument o (y ∷ rs)) n ≡ rules_so_far (r ∷ y ∷ rs) (suc n) ++ (argument_word o ∷ [])
    grown ys y rs e ih =
        let z = still o y rs in
        let opened : rules_so_far (r ∷ with_argument o (y ∷ rs)) n ≡ rule_word r (length r.arguments) ∷ (map argument_word r.arguments ++ rules_so_far (with_argument o (y ∷ rs)) n) =
        ap (λ (l : List Rule). rules_so_far (r ∷ l) n) z.2 ∙ ap (λ (l : List Rule). rule_word r (length r.arguments) ∷ (map argument_word r.arguments ++ rules_so_far l n)) (sym z.2) in
        opened
        ∙ ap (λ (l : List ℕ). rule_word r (length r.arguments) ∷ (map argument_word r.arguments ++ l)) ih
        ∙ ap (λ (l : List ℕ). rule_word r (length r.arguments) ∷ l) (sym (append_assoc (map argument_word r.arguments) (rules_so_far (y ∷ rs) (suc n)) (argument_word o ∷ [])))

-- a production's words, where c children and n arguments of the last rule are still to come
abbrev so_far : Production → ℕ → ℕ → List ℕ
so_far p c n = written (Form.production p.left (length p.children + c)) ∷ (map child_word p.children ++ (rules_so_far p.rules n ++ map step_word p.steps))

abbrev current_words : Next → Production → List ℕ
current_words Next.first_symbol p = []
current_words Next.symbols p = []
current_words (Next.children c) p = so_far p c 0
current_words Next.rules p = so_far p 0 0
current_words (Next.arguments n) p = so_far p 0 n
current_words Next.steps p = so_far p 0 0
current_words Next.nothing p = written Form.end ∷ []

abbrev said_of : List ℕ → List Attribute → List Production → Next → Production → List ℕ
said_of vs bs ps nx p = symbol_words 0 vs bs ++ (production_words ps ++ current_words nx p)

-- the words that have been read
abbrev pub said : Sofar → List ℕ
said q = said_of q.visits q.attributes q.whole q.next q.current

-- what the production that is being read has got
abbrev pub Shape : Next → Production → Type 0
Shape Next.first_symbol p = Unit {0}
Shape Next.symbols p = Unit {0}
Shape (Next.children n) p = (1 ≤ n) × (p.rules ≡ []) × (p.steps ≡ [])
Shape Next.rules p = p.steps ≡ []
Shape (Next.arguments n) p = (1 ≤ n) × (p.steps ≡ []) × (p.rules ≡ [] → ⊥)
Shape Next.steps p = Unit {0}
Shape Next.nothing p = Unit {0}

grow : (xs ys zs zs' : List ℕ) (w : ℕ) → zs' ≡ zs ++ (w ∷ []) → xs ++ (ys ++ zs') ≡ (xs ++ (ys ++ zs)) ++ (w ∷ [])
grow xs ys zs zs' w e =
    ap (λ (l : List ℕ). xs ++ (ys ++ l)) e
    ∙ ap (λ (l : List ℕ). xs ++ l) (sym (append_assoc ys zs (w ∷ [])))
    ∙ sym (append_assoc xs (ys ++ zs) (w ∷ []))

grow_empty : (ys ys' zs : List ℕ) (w : ℕ) → zs ≡ [] → ys' ≡ ys ++ (w ∷ []) → ys' ++ zs ≡ (ys ++ zs) ++ (w ∷ [])
grow_empty ys ys' zs w e d =
    subst (λ (l : List ℕ). ys' ++ l ≡ (ys ++ l) ++ (w ∷ [])) (sym e) (append-nil ys' ∙ d ∙ ap (λ (l : List ℕ). l ++ (w ∷ [])) (sym (append-nil ys)))

whole-production : (p : Production) → so_far p 0 0 ≡ production_words (p ∷ [])
whole-production p =
    ap (λ (c : ℕ). written (Form.production p.left c) ∷ (map child_word p.children ++ (rules_so_far p.rules 0 ++ map step_word p.steps))) (add-zero (length p.children))
    ∙ ap (λ (l : List ℕ). written (Form.production p.left (length p.children)) ∷ (map child_word p.children ++ (l ++ map step_word p.steps))) (all_rules p.rules)
    ∙ ap (λ (l : List ℕ). written (Form.production p.left (length p.children)) ∷ (map child_word p.children ++ (rule_words p.rules ++ l))) (sym (append-nil (map step_word p.steps)))

one_more_production : (ps : List Production) (p : Production) → production_words (ps ++ (p ∷ [])) ≡ production_words ps ++ so_far p 0 0
one_more_production [] p = sym (whole-production p)
one_more_production (y ∷ ps) p =
    let C = map child_word y.children in
    let R = rule_words y.rules in
    let S = map step_word y.steps in
    let P = production_words ps in
    let W = written (Form.production y.left (length y.children)) in
    ap (λ (l : List ℕ). W ∷ (C ++ (R ++ (S ++ l)))) (one_more_production ps p)
    ∙ ap (λ (l : List ℕ). W ∷ (C ++ (R ++ l))) (sym (append_assoc S P (so_far p 0 0)))
    ∙ ap (λ (l : List ℕ). W ∷ (C ++ l)) (sym (append_assoc R (S ++ P) (so_far p 0 0)))
    ∙ ap (λ (l : List ℕ). W ∷ l) (sym (append_assoc C (R ++ (S ++ P)) (so_far p 0 0)))

after_children_words : (c : ℕ) (p : Production) → current_words (after_children c) p ≡ so_far p c 0
after_children_words zero p = refl
after_children_words (suc c) p = refl

after_arguments_words : (c : ℕ) (p : Production) → current_words (after_arguments c) p ≡ so_far p 0 c
after_arguments_words zero p = refl
after_arguments_words (suc c) p = refl

after_children_shape : (c : ℕ) (p : Production) → p.rules ≡ [] → p.steps ≡ [] → Shape (after_children c) p
after_children_shape zero p e d = d
after_children_shape (suc c) p e d = (omega arith, e, d)

after_arguments_shape : (c : ℕ) (p : Production) → p.steps ≡ [] → (p.rules ≡ [] → ⊥) → Shape (after_arguments c) p
after_arguments_shape zero p e f = e
after_arguments_shape (suc c) p e f = (omega arith, e, f)

pub cons_nil {ℓ} : {A : Type ℓ} (x : A) (xs : List A) → x ∷ xs ≡ [] → ⊥
cons_nil x xs e = let z : ◌≡◌ {A = ℕ} 0 1 = cc in omega arith

append-not_nil {ℓ} : {A : Type ℓ} (xs : List A) (x : A) → xs ++ (x ∷ []) ≡ [] → ⊥
append-not_nil [] x e = cons_nil x [] e
append-not_nil (y ∷ xs) x e = cons_nil y (xs ++ (x ∷ [])) e

grown_not_nil : (o : Occurrence) (rs : List Rule) → (rs ≡ [] → ⊥) → with_argument o rs ≡ [] → ⊥
grown_not_nil o [] f e = f refl
grown_not_nil o (r ∷ []) f e = cons_nil _ _ e
grown_not_nil o (r ∷ y ∷ rs) f e = cons_nil _ _ e

pub some_visits : (j : ℕ) (vs : List ℕ) → T (within j (get_elem? vs (length vs - 1))) → 1 ≤ length vs
some_visits j [] h = absurd h
some_visits j (v ∷ vs) h = omega arith

side_again : (d : ℕ) → T (leb 0 d && leb d 1) → side_number (numbered_side d) ≡ d
side_again zero h = refl
side_again (suc zero) h = refl
side_again (suc (suc d)) h = let l = leb→le (suc (suc d)) 1 (and_r (leb 0 (suc (suc d))) (leb (suc (suc d)) 1) h) in absurd (omega arith)

module _ (q : Sofar) (good : Good q) where
  said_symbol : (v : ℕ) (nx : Next) → (T (early nx) → q.whole ≡ []) → T (any (eqb 1) (kinds nx)) → said_of (q.visits ++ (v ∷ [])) q.attributes q.whole Next.symbols q.current ≡ said_of q.visits q.attributes q.whole nx q.current ++ (written (Form.symbol v) ∷ [])
  said_symbol v nx none_yet h = go nx none_yet h
    where
      more : symbol_words 0 (q.visits ++ (v ∷ [])) q.attributes ≡ symbol_words 0 q.visits q.attributes ++ (written (Form.symbol v) ∷ [])
      more = one_more_symbol 0 v q.visits q.attributes (λ i b h. let k = good.attribute_is i b h in let l = has-below q.visits b.symbol k.0 k.1 in omega arith)

      empty : q.whole ≡ [] → symbol_words 0 (q.visits ++ (v ∷ [])) q.attributes ++ (production_words q.whole ++ []) ≡ (symbol_words 0 q.visits q.attributes ++ (production_words q.whole ++ [])) ++ (written (Form.symbol v) ∷ [])
      empty e = grow_empty (symbol_words 0 q.visits q.attributes) (symbol_words 0 (q.visits ++ (v ∷ [])) q.attributes) (production_words q.whole ++ []) (written (Form.symbol v)) (ap (λ (ps : List Production). production_words ps ++ []) e) more

      go : (nx : Next) → (T (early nx) → q.whole ≡ []) → T (any (eqb 1) (kinds nx)) → said_of (q.visits ++ (v ∷ [])) q.attributes q.whole Next.symbols q.current ≡ said_of q.visits q.attributes q.whole nx q.current ++ (written (Form.symbol v) ∷ [])
      go Next.first_symbol f h = empty (f tt)
      go Next.symbols f h = empty (f tt)
      go (Next.children n) f h = absurd h
      go Next.rules f h = absurd h
      go (Next.arguments n) f h = absurd h
      go Next.steps f h = absurd h
      go Next.nothing f h = absurd h

  module _ (b : Attribute) (last : suc b.symbol ≡ length q.visits) where
    said_attribute : (nx : Next) → (T (early nx) → q.whole ≡ []) → T (any (eqb 2) (kinds nx)) → said_of q.visits (q.attributes ++ (b ∷ [])) q.whole Next.symbols q.current ≡ said_of q.visits q.attributes q.whole nx q.current ++ (attribute_word b ∷ [])
    said_attribute Next.first_symbol f h = absurd h
    said_attribute Next.symbols f h =
        grow_empty (symbol_words 0 q.visits q.attributes) (symbol_words 0 q.visits (q.attributes ++ (b ∷ []))) (production_words q.whole ++ []) (attribute_word b) (ap (λ (ps : List Production). production_words ps ++ []) (f tt))
        (one_more_attribute 0 q.visits q.attributes b (omega arith) (omega arith))
    said_attribute (Next.children n) f h = absurd h
    said_attribute Next.rules f h = absurd h
    said_attribute (Next.arguments n) f h = absurd h
    said_attribute Next.steps f h = absurd h
    said_attribute Next.nothing f h = absurd h

  -- what begins another thing
  module _ (w : ℕ) (nx' : Next) (p' : Production) (e : current_words nx' p' ≡ w ∷ []) where
    closes_early : q.whole ≡ [] → said_of q.visits q.attributes [] nx' p' ≡ said_of q.visits q.attributes q.whole Next.symbols q.current ++ (w ∷ [])
    closes_early d =
        ap (λ (l : List ℕ). symbol_words 0 q.visits q.attributes ++ l) e
        ∙ ap (λ (l : List ℕ). l ++ (w ∷ [])) (sym (append-nil (symbol_words 0 q.visits q.attributes)) ∙ ap (λ (ps : List Production). symbol_words 0 q.visits q.attributes ++ (production_words ps ++ [])) (sym d))

    closes-steps : said_of q.visits q.attributes (cond (leb (suc (length q.whole)) 0) q.whole (q.whole ++ (q.current ∷ []))) nx' p' ≡ said_of q.visits q.attributes q.whole Next.steps q.current ++ (w ∷ [])
    closes-steps =
        ap (λ (b : Bool). said_of q.visits q.attributes (cond b q.whole (q.whole ++ (q.current ∷ []))) nx' p') (leb-suc-zero (length q.whole))
        ∙ ap (λ (l : List ℕ). symbol_words 0 q.visits q.attributes ++ (l ++ current_words nx' p')) (one_more_production q.whole q.current)
        ∙ ap (λ (l : List ℕ). symbol_words 0 q.visits q.attributes ++ ((production_words q.whole ++ so_far q.current 0 0) ++ l)) e
        ∙ sym (append_assoc (symbol_words 0 q.visits q.attributes) (production_words q.whole ++ so_far q.current 0 0) (w ∷ []))

    said_production : (nx : Next) → (T (early nx) → q.whole ≡ []) → T (any (eqb 3) (kinds nx)) → said_of q.visits q.attributes (cond (leb (begun q nx) 0) q.whole (q.whole ++ (q.current ∷ []))) nx' p' ≡ said_of q.visits q.attributes q.whole nx q.current ++ (w ∷ [])
    said_production Next.first_symbol f h = absurd h
    said_production Next.symbols f h = ap (λ (ps : List Production). said_of q.visits q.attributes ps nx' p') (f tt) ∙ closes_early (f tt)
    said_production (Next.children n) f h = absurd h
    said_production Next.rules f h = absurd h
    said_production (Next.arguments n) f h = absurd h
    said_production Next.steps f h = closes-steps
    said_production Next.nothing f h = absurd h

    said_end : (nx : Next) → (T (early nx) → q.whole ≡ []) → T (any (eqb 15) (kinds nx)) → said_of q.visits q.attributes (cond (leb (begun q nx) 0) q.whole (q.whole ++ (q.current ∷ []))) nx' p' ≡ said_of q.visits q.attributes q.whole nx q.current ++ (w ∷ [])
    said_end Next.first_symbol f h = absurd h
    said_end Next.symbols f h = absurd h
    said_end (Next.children n) f h = absurd h
    said_end Next.rules f h = absurd h
    said_end (Next.arguments n) f h = absurd h
    said_end Next.steps f h = closes-steps
    said_end Next.nothing f h = absurd h

-- the words of the production that is being read
module _ (p : Production) where
  words_child : (x : ℕ) (nx : Next) → Shape nx p → T (any (eqb 4) (kinds nx)) → (p' : Production) → p' ≡ record { left = p.left; children = p.children ++ (x ∷ []); rules = p.rules; steps = p.steps } → (current_words (one_less nx) p' ≡ current_words nx p ++ (child_word x ∷ [])) × Shape (one_less nx) p'
  words_child x Next.first_symbol shape h p' e = absurd h
  words_child x Next.symbols shape h p' e = absurd h
  words_child x (Next.children n) shape h p' e =
      let now : Production = record { left = p.left; children = p.children ++ (x ∷ []); rules = p.rules; steps = p.steps } in
      let few = length-append p.children (x ∷ []) in
      let one : 1 ≤ n = shape.0 in
      let count : length (p.children ++ (x ∷ [])) + (n - 1) ≡ length p.children + n = ap (λ (z : ℕ). z + (n - 1)) few ∙ omega arith in
      let nothing-after : rules_so_far p.rules 0 ++ map step_word p.steps ≡ [] = ap (λ (rs : List Rule). rules_so_far rs 0 ++ map step_word p.steps) shape.1 ∙ ap (λ (ts : List Step). map step_word ts) shape.2 in
      subst (λ (z : Production). (current_words (after_children (n - 1)) z ≡ so_far p n 0 ++ (child_word x ∷ [])) × Shape (after_children (n - 1)) z) (sym e) (
        after_children_words (n - 1) now
            ∙ ap (λ (c : ℕ). written (Form.production p.left c) ∷ (map child_word (p.children ++ (x ∷ [])) ++ (rules_so_far p.rules 0 ++ map step_word p.steps))) count
            ∙ ap (λ (l : List ℕ). written (Form.production p.left (length p.children + n)) ∷ l)
            (grow_empty (map child_word p.children) (map child_word (p.children ++ (x ∷ []))) (rules_so_far p.rules 0 ++ map step_word p.steps) (child_word x) nothing-after (map-append child_word p.children (x ∷ []))),
        after_children_shape (n - 1) now shape.1 shape.2,
      )
  words_child x Next.rules shape h p' e = absurd h
  words_child x (Next.arguments n) shape h p' e = absurd h
  words_child x Next.steps shape h p' e = absurd h
  words_child x Next.nothing shape h p' e = absurd h

  rules_grow : (rs' : List Rule) (c n w : ℕ) → p.steps ≡ [] → rules_so_far rs' n ≡ rules_so_far p.rules c ++ (w ∷ []) → so_far (record { left = p.left; children = p.children; rules = rs'; steps = p.steps }) 0 n ≡ so_far p 0 c ++ (w ∷ [])
  rules_grow rs' c n w none_yet e =
      ap (λ (l : List ℕ). written (Form.production p.left (length p.children + 0)) ∷ (map child_word p.children ++ l))
      (grow_empty (rules_so_far p.rules c) (rules_so_far rs' n) (map step_word p.steps) w (ap (λ (ts : List Step). map step_word ts) none_yet) e)
      ∙ ap (λ (l : List ℕ). written (Form.production p.left (length p.children + 0)) ∷ l) (sym (append_assoc (map child_word p.children) (rules_so_far p.rules c ++ map step_word p.steps) (w ∷ [])))

  words_rule : (r : Rule) (c : ℕ) → r.arguments ≡ [] → (nx : Next) → Shape nx p → T (any (eqb 5) (kinds nx)) → (p' : Production) → p' ≡ record { left = p.left; children = p.children; rules = p.rules ++ (r ∷ []); steps = p.steps } → (current_words (after_arguments c) p' ≡ current_words nx p ++ (rule_word r c ∷ [])) × Shape (after_arguments c) p'
  words_rule r c d Next.first_symbol shape h p' e = absurd h
  words_rule r c d Next.symbols shape h p' e = absurd h
  words_rule r c d (Next.children n) shape h p' e = absurd h
  words_rule r c d Next.rules shape h p' e =
      let now : Production = record { left = p.left; children = p.children; rules = p.rules ++ (r ∷ []); steps = p.steps } in
      subst (λ (z : Production). (current_words (after_arguments c) z ≡ so_far p 0 0 ++ (rule_word r c ∷ [])) × Shape (after_arguments c) z) (sym e) (
        after_arguments_words c now ∙ rules_grow (p.rules ++ (r ∷ [])) 0 c (rule_word r c) shape (one_more_rule p.rules r c d),
        after_arguments_shape c now shape (append-not_nil p.rules r),
      )
  words_rule r c d (Next.arguments n) shape h p' e = absurd h
  words_rule r c d Next.steps shape h p' e = absurd h
  words_rule r c d Next.nothing shape h p' e = absurd h

  words_argument : (o : Occurrence) (nx : Next) → Shape nx p → T (any (eqb 6) (kinds nx)) → (p' : Production) → p' ≡ record { left = p.left; children = p.children; rules = with_argument o p.rules; steps = p.steps } → (current_words (one_less nx) p' ≡ current_words nx p ++ (argument_word o ∷ [])) × Shape (one_less nx) p'
  words_argument o Next.first_symbol shape h p' e = absurd h
  words_argument o Next.symbols shape h p' e = absurd h
  words_argument o (Next.children n) shape h p' e = absurd h
  words_argument o Next.rules shape h p' e = absurd h
  words_argument o (Next.arguments n) shape h p' e =
      let now : Production = record { left = p.left; children = p.children; rules = with_argument o p.rules; steps = p.steps } in
      let one : 1 ≤ n = shape.0 in
      let all : suc (n - 1) ≡ n = omega arith in
      subst (λ (z : Production). (current_words (after_arguments (n - 1)) z ≡ so_far p 0 n ++ (argument_word o ∷ [])) × Shape (after_arguments (n - 1)) z) (sym e) (
        after_arguments_words (n - 1) now
            ∙ rules_grow (with_argument o p.rules) n (n - 1) (argument_word o) shape.1 (one_more_argument o p.rules (n - 1) shape.2 ∙ ap (λ (z : ℕ). rules_so_far p.rules z ++ (argument_word o ∷ [])) all),
        after_arguments_shape (n - 1) now shape.1 (grown_not_nil o p.rules shape.2),
      )
  words_argument o Next.steps shape h p' e = absurd h
  words_argument o Next.nothing shape h p' e = absurd h

  step_grows : (st : Step) → so_far (record { left = p.left; children = p.children; rules = p.rules; steps = p.steps ++ (st ∷ []) }) 0 0 ≡ so_far p 0 0 ++ (step_word st ∷ [])
  step_grows st =
      ap (λ (l : List ℕ). written (Form.production p.left (length p.children + 0)) ∷ l)
      (grow (map child_word p.children) (rules_so_far p.rules 0) (map step_word p.steps) (map step_word (p.steps ++ (st ∷ []))) (step_word st) (map-append step_word p.steps (st ∷ [])))

  words_step : (st : Step) (k : ℕ) → eqb k 1 ≡ false → eqb k 2 ≡ false → eqb k 3 ≡ false → eqb k 4 ≡ false → eqb k 6 ≡ false → (nx : Next) → T (any (eqb k) (kinds nx)) → so_far (record { left = p.left; children = p.children; rules = p.rules; steps = p.steps ++ (st ∷ []) }) 0 0 ≡ current_words nx p ++ (step_word st ∷ [])
  words_step st k e₁ e₂ e₃ e₄ e₆ Next.first_symbol h = absurd (subst (λ (z : Bool). T (z || false)) e₁ h)
  words_step st k e₁ e₂ e₃ e₄ e₆ Next.symbols h =
      absurd (subst (λ (z : Bool). T (z || false)) e₃ (subst (λ (z : Bool). T (z || (eqb k 3 || false))) e₂ (subst (λ (z : Bool). T (z || (eqb k 2 || (eqb k 3 || false)))) e₁ h)))
  words_step st k e₁ e₂ e₃ e₄ e₆ (Next.children n) h = absurd (subst (λ (z : Bool). T (z || false)) e₄ h)
  words_step st k e₁ e₂ e₃ e₄ e₆ Next.rules h = step_grows st
  words_step st k e₁ e₂ e₃ e₄ e₆ (Next.arguments n) h = absurd (subst (λ (z : Bool). T (z || false)) e₆ h)
  words_step st k e₁ e₂ e₃ e₄ e₆ Next.steps h = step_grows st
  words_step st k e₁ e₂ e₃ e₄ e₆ Next.nothing h = absurd h

module _ (q : Sofar) (good : Good q) (shape : Shape q.next q.current) where
  in_current : (w : ℕ) (nx' : Next) (p' : Production) → current_words nx' p' ≡ current_words q.next q.current ++ (w ∷ []) → said_of q.visits q.attributes q.whole nx' p' ≡ said q ++ (w ∷ [])
  in_current w nx' p' e = grow (symbol_words 0 q.visits q.attributes) (production_words q.whole) (current_words q.next q.current) (current_words nx' p') w e

  -- one word more
  pub taken_said : (w : ℕ) (f : Form) → Accepted q w f → (said (taken q f) ≡ said q ++ (written f ∷ [])) × Shape (taken q f).next (taken q f).current
  taken_said w (Form.symbol v) a = (said_symbol q good v q.next good.none_yet a.awaited, tt)
  taken_said w (Form.attribute d j) a =
      let b : Attribute = record { symbol = length q.visits - 1; side = numbered_side d; visit = j } in
      let some_yet = some_visits j q.visits a.there in
      let word : attribute_word b ≡ written (Form.attribute d j) = ap (λ (z : ℕ). written (Form.attribute z j)) (side_again d (and_l (leb 0 d && leb d 1) (leb 1 j && leb j 4) a.ranged)) in
      (said_attribute q good b (omega arith) q.next good.none_yet a.awaited ∙ ap (λ (z : ℕ). said q ++ (z ∷ [])) word, tt)
  taken_said w (Form.production x c) a =
      let new : Production = record { left = x; children = []; rules = []; steps = [] } in (
        said_production q good (written (Form.production x c)) (after_children c) new (after_children_words c new ∙ ap (λ (z : ℕ). written (Form.production x z) ∷ []) (zero-add c)) q.next good.none_yet a.awaited,
        after_children_shape c new refl refl,
      )
  taken_said w (Form.child x) a =
      let c = words_child q.current x q.next shape a.awaited _ refl in
      (in_current (child_word x) (one_less q.next) _ c.0, c.1)
  taken_said w (Form.rule n k b c) a =
      let r : Rule = record { number = n; target = record { position = k; attribute = b }; arguments = [] } in
      let g = words_rule q.current r c refl q.next shape a.awaited _ refl in
      (in_current (rule_word r c) (after_arguments c) _ g.0, g.1)
  taken_said w (Form.argument k b) a =
      let o : Occurrence = record { position = k; attribute = b } in
      let g = words_argument q.current o q.next shape a.awaited _ refl in
      (in_current (argument_word o) (one_less q.next) _ g.0, g.1)
  taken_said w (Form.eval r) a = (in_current (written (Form.eval r)) Next.steps (taken q (Form.eval r)).current (words_step q.current (eval r) 7 refl refl refl refl refl q.next a.awaited), tt)
  taken_said w (Form.visit k j) a = (in_current (written (Form.visit k j)) Next.steps (taken q (Form.visit k j)).current (words_step q.current (visit k j) 8 refl refl refl refl refl q.next a.awaited), tt)
  taken_said w (Form.leave i) a = (in_current (written (Form.leave i)) Next.steps (taken q (Form.leave i)).current (words_step q.current (leave i) 9 refl refl refl refl refl q.next a.awaited), tt)
  taken_said w Form.end a = (said_end q good (written Form.end) Next.nothing (taken q Form.end).current refl q.next good.none_yet a.awaited, tt)

finished_said : (vs : List ℕ) (bs : List Attribute) (ps : List Production) (p : Production) (nx : Next) → T (finished nx) → said_of vs bs ps nx p ≡ words_of (record { visits = vs; attributes = bs; productions = ps })
finished_said vs bs ps p Next.first_symbol h = absurd h
finished_said vs bs ps p Next.symbols h = absurd h
finished_said vs bs ps p (Next.children n) h = absurd h
finished_said vs bs ps p Next.rules h = absurd h
finished_said vs bs ps p (Next.arguments n) h = absurd h
finished_said vs bs ps p Next.steps h = absurd h
finished_said vs bs ps p Next.nothing h = refl

reads_back : (ws : List ℕ) (i : ℕ) (q : Sofar) (s : Scheme) → Good q → Shape q.next q.current → read_from ws i q ≡ scheme s → said q ++ ws ≡ words_of s
reads_back [] i q s good shape e = go (finished q.next) refl e
  where
    go : (b : Bool) → finished q.next ≡ b → cond b (scheme (record { visits = q.visits; attributes = q.attributes; productions = q.whole })) (stopped 3 i) ≡ scheme s → said q ++ [] ≡ words_of s
    go true h e = append-nil (said q) ∙ finished_said q.visits q.attributes q.whole q.current q.next (subst T (sym h) tt) ∙ ap words_of (scheme-same _ s e)
    go false h e = absurd (stopped-scheme 3 i s e)
reads_back (w ∷ ws) i q s good shape e = go (λ q' good' shape' e'. reads_back ws (suc i) q' s good' shape' e') (objection q w) refl e
  where
    go : ((q' : Sofar) → Good q' → Shape q'.next q'.current → read_from ws (suc i) q' ≡ scheme s → said q' ++ ws ≡ words_of s) → (o : Option ℕ) → objection q w ≡ o → elim o as (λ _. Read) [ none ↦ read_from ws (suc i) (accepted q (fields (kind w) w)) | some n ↦ stopped n i ] ≡ scheme s → said q ++ (w ∷ ws) ≡ words_of s
    go later none h e =
        let f = accepted_of q w h in
        let more = taken_said q good shape w f.0 f.1 in
        let rest = later (taken q f.0) (taken_good q good w f.0 f.1) more.1 (subst (λ (o : Option Form). read_from ws (suc i) (accepted q o) ≡ scheme s) f.1.form_is e) in
        sym (append_assoc (said q) (w ∷ []) ws) ∙ ap (λ (z : ℕ). (said q ++ (z ∷ [])) ++ ws) (sym f.1.word_is) ∙ ap (λ (l : List ℕ). l ++ ws) (sym more.0) ∙ rest
    go later (some n) h e = absurd (stopped-scheme n i s e)

-- a scheme that is read from words is written by those words
pub read-written : (ws : List ℕ) (s : Scheme) → read ws ≡ scheme s → words_of s ≡ ws
read-written ws s e = sym (reads_back ws 0 at_first s first_good tt e)

-- so no two rows of words are read as one scheme
pub read_once : (ws ws' : List ℕ) (s : Scheme) → read ws ≡ scheme s → read ws' ≡ scheme s → ws ≡ ws'
read_once ws ws' s e e' = sym (read-written ws s e) ∙ read-written ws' s e'
