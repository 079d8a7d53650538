-- Words from bytes. Assumes nothing.
use Rattle.std.proofs.Common.{◌≡◌, ℕ, zero, suc, ◌+◌, ◌*◌, ◌%◌, ◌^◌, ◌<◌, ◌≤◌, List, [], ◌∷◌, map, length, refl, ap, w32, arith}
use Rattle.std.specs.Simd.{first_chunks}
use Rattle.std.specs.Int.{from_be_bytes}
use Rattle.model.specs.Words.{from_bytes}

-- the words are the chunks of four bytes
pub words_chunked : (n : ℕ) (bs : List ℕ) → 4 * n ≤ length bs → length bs < 4 * n + 4 → map (from_be_bytes w32) (first_chunks 4 n bs) ≡ from_bytes bs
words_chunked zero [] l u = refl
words_chunked zero (a ∷ []) l u = refl
words_chunked zero (a ∷ b ∷ []) l u = refl
words_chunked zero (a ∷ b ∷ c ∷ []) l u = refl
words_chunked zero (a ∷ b ∷ c ∷ d ∷ bs) l u = absurd (omega arith)
words_chunked (suc n) [] l u = absurd (omega arith)
words_chunked (suc n) (a ∷ []) l u = absurd (omega arith)
words_chunked (suc n) (a ∷ b ∷ []) l u = absurd (omega arith)
words_chunked (suc n) (a ∷ b ∷ c ∷ []) l u = absurd (omega arith)
words_chunked (suc n) (a ∷ b ∷ c ∷ d ∷ bs) l u = ap (λ (ws : List ℕ). (a * 2 ^ 24 + b * 2 ^ 16 + c * 2 ^ 8 + d) ∷ ws) (words_chunked n bs (omega arith) (omega arith))

-- whole words have four bytes each
pub word_count : (bs : List ℕ) → length bs % 4 ≡ 0 → 4 * length (from_bytes bs) ≡ length bs
word_count [] e = refl
word_count (a ∷ []) e = absurd (omega arith)
word_count (a ∷ b ∷ []) e = absurd (omega arith)
word_count (a ∷ b ∷ c ∷ []) e = absurd (omega arith)
word_count (a ∷ b ∷ c ∷ d ∷ bs) e = let h = word_count bs (omega arith) in omega arith
