-- The tape of a formed scheme has its places in a table for the scheme's symbols.
use Rattle.std.proofs.Common.{◌≡◌, ℕ, true, ltb, List, length, get_or, refl}
use Rattle.std.proofs.lemmas.Bool.{and_from, lt-ltb}
use Rattle.std.proofs.lemmas.List.Sums.{list_all-from_AllPass}
use Rattle.model.specs.Formed.{Formed}
use Rattle.model.specs.Lists.{every}
use Rattle.model.specs.Scheme.{Scheme}
use Rattle.model.specs.Tape.{Event, opens, ends, begins, visits, leaves, tape}
use Rattle.model.proofs.Plan.Fits.{Fitting, tape_fits}
use Rattle.lives.specs.Playing.{in_range}

fitting_in_range : (n m : ℕ) (e : Event) → Fitting n m e → in_range n e ≡ true
fitting_in_range n m (opens x) h = lt-ltb x n h
fitting_in_range n m (ends a) h = refl
fitting_in_range n m (begins a) h = refl
fitting_in_range n m (visits x j) h = and_from (ltb x n) (ltb j 6) (lt-ltb x n h.0) (lt-ltb j 6 h.1)
fitting_in_range n m (leaves l) h = lt-ltb l 5 h

pub tape-in_range : (s : Scheme) → Formed s → (n : ℕ) (es : List Event) → es ≡ tape s → n ≡ length s.visits → every (in_range n) es ≡ true
tape-in_range s formed n es tape_is symbols_are =
    let here = list_all-from_AllPass (in_range (length s.visits)) (tape s) (λ k d l. fitting_in_range (length s.visits) (length s.attributes) (get_or (tape s) k d) (tape_fits s formed k d l)) in
    rw (tape_is, symbols_are) here
