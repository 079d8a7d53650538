-- Rounds over a tape add entries to the table until it says whether lives alternate.
use Rattle.std.proofs.Common.{◌≡◌, ℕ, ◌*◌, ◌<◌, Bool, true, false, not, ◌⊎◌, List, [], ◌∷◌, length, Decides, sym, refl, ap, ◌∙◌, inl, inr, arith}
use Rattle.std.proofs.lemmas.Bool.{and_parts, and_from, ltb-true, not-true, not_from_false, both_ways}
use Rattle.model.specs.Formed.{Formed}
use Rattle.model.specs.Lists.{every}
use Rattle.model.specs.Loose.{Cell, empty, held, broken, Alternate}
use Rattle.model.specs.Outcomes.{at, Filling, Sound, Closed}
use Rattle.model.specs.Scheme.{Scheme}
use Rattle.model.specs.Tape.{Event, opens, ends, begins, visits, leaves, Machine, act, play, ready, play_three, tape}
use Rattle.model.proofs.Plan.Exists.{grounded}
use Rattle.model.proofs.Plan.Played.{play_three_is}
use Rattle.model.proofs.Plan.Rounds.{Sized, put_all_progress, round_turn}
use Rattle.model.proofs.Plan.Table.{falses, Progress, progress_none, progress_both}
use Rattle.model.proofs.Plan.Witness.{alternate_clear, clear_alternate}
use Rattle.lives.specs.Playing.{in_range, clear}

-- the head of the tape has its place in a table for n symbols
record Ready (n : ℕ) (st : Machine) : Type 0 where
  room : length st.filling.table ≡ 54 * n
  left_below : st.left < n
  section-below : st.section < 6

module _ (members : ℕ → Bool) (c : Cell) (n : ℕ) where
  act_progress : (st : Machine) (e : Event) → in_range n e ≡ true → Ready n st → Ready n (act members c st e) × Progress st.filling (act members c st e).filling
  act_progress st (opens x) h r = (record { room = r.room; left_below = ltb-true x n h; section-below = omega arith }, progress_none st.filling)
  act_progress st (ends a) h r = (record { room = r.room; left_below = r.left_below; section-below = r.section-below }, progress_none st.filling)
  act_progress st (begins a) h r = (record { room = r.room; left_below = r.left_below; section-below = r.section-below }, progress_none st.filling)
  act_progress st (visits x j) h r = (record { room = r.room; left_below = r.left_below; section-below = r.section-below }, progress_none st.filling)
  act_progress st (leaves l) h r =
      let more = put_all_progress st.left st.section n c st.cells st.filling r.room r.left_below r.section-below in
      (record { room = more.same_length ∙ r.room; left_below = r.left_below; section-below = omega (arith, ltb-true l 5 h) }, more)

  play_progress : (st : Machine) (es : List Event) → every (in_range n) es ≡ true → Ready n st → Progress st.filling (play members c st es).filling
  play_progress st [] h r = progress_none st.filling
  play_progress st (e ∷ es) h r =
      let both = and_parts (in_range n e) (every (in_range n) es) h in
      let one = act_progress st e both.0 r in
      progress_both st.filling (act members c st e).filling (play members c (act members c st e) es).filling one.1 (play_progress (act members c st e) es both.1 one.0)

module _ (members : ℕ → Bool) (n : ℕ) (es : List Event) (fit : every (in_range n) es ≡ true) (present : 0 < n) where
  from_start : (c : Cell) (w : Filling) → length w.table ≡ 54 * n → Progress w (play members c (ready w) es).filling
  from_start c w room = play_progress members c n (ready w) es fit (record { room = room; left_below = present; section-below = omega arith })

  round_progress : (w : Filling) → length w.table ≡ 54 * n → Progress w (play_three members es w)
  round_progress w room =
      let w₁ = (play members empty (ready w) es).filling in
      let w₂ = (play members held (ready w₁) es).filling in
      let one = from_start empty w room in
      let two = from_start held w₁ (one.same_length ∙ room) in
      let last = from_start broken w₂ (two.same_length ∙ one.same_length ∙ room) in
      progress_both w w₂ (play_three members es w) (progress_both w w₁ w₂ one two) last

  -- a round that changed the table leaves fewer entries false
  pub round_less : (t u : List Bool) (b : Bool) → length t ≡ 54 * n → record { table = u; changed = b } ≡ play_three members es (record { table = t; changed = false }) → b ≡ true → falses u < falses t
  round_less t u b room e change =
      let w : Filling = record { table = t; changed = false } in
      let same : falses u ≡ falses (play_three members es w).table = ap (λ (z : Filling). falses z.table) e in
      omega (arith, (round_progress w room).falls refl (ap (λ (z : Filling). z.changed) (sym e) ∙ change), same)

-- what a round keeps: each entry is some walk's; and after a round that changed nothing no walk leads further
pub round_kept : (s : Scheme) → Formed s → (members : ℕ → Bool) (es : List Event) (t u : List Bool) (b : Bool) → es ≡ tape s → Sized s t → Sound s members (at t) → record { table = u; changed = b } ≡ play_three members es (record { table = t; changed = false }) → Sound s members (at u) × (b ≡ false → Closed s members (at u))
round_kept s formed members es t u b tape_is sized sound e =
    let w : Filling = record { table = t; changed = false } in
    let round = e ∙ ap (λ (fs : List Event). play_three members fs w) tape_is ∙ play_three_is s members w (grounded s formed) in
    let next = round_turn s members formed t u b sized sound round in
    (next.1, next.2)

-- at the end: each entry is some walk's, and either no walk leads further, or the table is no longer clear
abbrev pub Ended : Scheme → (ℕ → Bool) → List Bool → Type 0
Ended s members t = Sound s members (at t) × (Closed s members (at t) ⊎ (clear t ≡ false))

pub decided : (s : Scheme) (members : ℕ → Bool) (t : List Bool) → Ended s members t → Decides (clear t) (Alternate s members)
decided s members t end = (
  λ e. let parts = and_parts (not (at t 0 1 empty held)) (not (at t 0 1 empty broken)) e in clear_alternate s members (at t) (still end.1 e) (not-true (at t 0 1 empty held) parts.0, not-true (at t 0 1 empty broken) parts.1),
  λ alternate. let none-such = alternate_clear s members (at t) end.0 alternate in and_from (not (at t 0 1 empty held)) (not (at t 0 1 empty broken)) (not_from_false (at t 0 1 empty held) none-such.0) (not_from_false (at t 0 1 empty broken) none-such.1),
)
  where
    still : Closed s members (at t) ⊎ (clear t ≡ false) → clear t ≡ true → Closed s members (at t)
    still (inl closed) h = closed
    still (inr e) h = absurd (both_ways (clear t) e h)
