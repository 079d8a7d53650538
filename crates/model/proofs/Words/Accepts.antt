-- What holds of a word that reading accepts. Assumes nothing.
use Rattle.std.proofs.Common.{◌≡◌, ℕ, zero, suc, Bool, true, false, cond, not, ◌&&◌, T, eqb, sym, refl, ap, ◌∙◌, subst, eqb→eq}
use mathlib.Core.Option.{Option, none, some}
use Rattle.model.specs.Lists.{any}
use Rattle.model.specs.Words.{Form, written, in_range, kind, fields, kinds, Sofar, passes_limit, present, right_sort, judged, objection}
use Rattle.model.proofs.Common.ListFacts.{of_true, of_false, some_none, and_l, and_r}

-- the kind of a word that says it
abbrev pub number : Form → ℕ
number (Form.symbol v) = 1
number (Form.attribute d j) = 2
number (Form.production x c) = 3
number (Form.child x) = 4
number (Form.rule n k a c) = 5
number (Form.argument k a) = 6
number (Form.eval r) = 7
number (Form.visit k j) = 8
number (Form.leave i) = 9
number Form.end = 15

abbrev numbered : Option Form → ℕ
numbered none = 0
numbered (some f) = number f

pub kind_is : (k w : ℕ) (f : Form) → fields k w ≡ some f → k ≡ number f
kind_is zero w f e = absurd (some_none f e)
kind_is (suc zero) w f e = ap numbered e
kind_is (suc (suc zero)) w f e = ap numbered e
kind_is (suc (suc (suc zero))) w f e = ap numbered e
kind_is (suc (suc (suc (suc zero)))) w f e = ap numbered e
kind_is (suc (suc (suc (suc (suc zero))))) w f e = ap numbered e
kind_is (suc (suc (suc (suc (suc (suc zero)))))) w f e = ap numbered e
kind_is (suc (suc (suc (suc (suc (suc (suc zero))))))) w f e = ap numbered e
kind_is (suc (suc (suc (suc (suc (suc (suc (suc zero)))))))) w f e = ap numbered e
kind_is (suc (suc (suc (suc (suc (suc (suc (suc (suc zero))))))))) w f e = ap numbered e
kind_is (suc (suc (suc (suc (suc (suc (suc (suc (suc (suc n)))))))))) w f e = go (eqb n 5) refl e
  where
    go : (b : Bool) → eqb n 5 ≡ b → cond b (some Form.end) none ≡ some f → suc (suc (suc (suc (suc (suc (suc (suc (suc (suc n))))))))) ≡ number f
    go true h e = ap (λ (x : ℕ). suc (suc (suc (suc (suc (suc (suc (suc (suc (suc x)))))))))) (eqb→eq n 5 (of_true (eqb n 5) h)) ∙ ap numbered e
    go false h e = absurd (some_none f e)

-- the word w says f, which may come next
pub record Accepted (q : Sofar) (w : ℕ) (f : Form) : Type 0 where
  pub form_is : fields (kind w) w ≡ some f
  pub awaited : T (any (eqb (number f)) (kinds q.next))
  pub within_limit : T (passes_limit q f) → ⊥
  pub ranged : T (in_range f)
  pub word_is : written f ≡ w
  pub there : T (present q f)
  pub sorted : T (right_sort q f)

passed : (b : Bool) (n : ℕ) (o : Option ℕ) → cond b (some n) o ≡ none → (b ≡ false) × (o ≡ none)
passed true n o e = absurd (some_none n (sym e))
passed false n o e = (refl, e)

un_not : (b : Bool) → not b ≡ false → T b
un_not true e = tt
un_not false e = subst T e tt

pub accepted_of : (q : Sofar) (w : ℕ) → objection q w ≡ none → (f : Form) × Accepted q w f
accepted_of q w h = go (fields (kind w) w) refl h
  where
    go : (o : Option Form) → fields (kind w) w ≡ o → judged q w o ≡ none → (f : Form) × Accepted q w f
    go none e h = absurd (some_none 3 (sym h))
    go (some f) e h =
        let a = passed (not (any (eqb (kind w)) (kinds q.next))) 3 _ h in
        let b = passed (passes_limit q f) 4 _ a.1 in
        let c = passed (not (in_range f && eqb (written f) w)) 5 _ b.1 in
        let d = passed (not (present q f)) 6 _ c.1 in
        let g = passed (not (right_sort q f)) 7 none d.1 in
        let made = un_not (in_range f && eqb (written f) w) c.0 in (
          f,
          record {
            form_is = e;
            awaited = subst (λ (k : ℕ). T (any (eqb k) (kinds q.next))) (kind_is (kind w) w f e) (un_not (any (eqb (kind w)) (kinds q.next)) a.0);
            within_limit = of_false (passes_limit q f) b.0;
            ranged = and_l (in_range f) (eqb (written f) w) made;
            word_is = eqb→eq (written f) w (and_r (in_range f) (eqb (written f) w) made);
            there = un_not (present q f) d.0;
            sorted = un_not (right_sort q f) g.0;
          },
        )
