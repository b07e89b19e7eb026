-- Words and blocks: those of two lists that have the same bytes are the same.
use Rattle.std.proofs.Common.{◌≡◌, ℕ, ◌+◌, ◌*◌, ◌<◌, List, sym, ap, ◌∙◌, add-zero, add_assoc, arith, lit<}
use Rattle.digest.specs.Words.{at, word_at, block_at}

module _ (a b : List ℕ) where
  word_same : (p q : ℕ) → ((k : ℕ) → k < 8 → at a (p + k) ≡ at b (q + k)) → word_at a p ≡ word_at b q
  unfolding word_at
  word_same p q f =
      let e : at a p ≡ at b q = ap (at a) (sym (add-zero p)) ∙ f 0 (lit< tt) ∙ ap (at b) (add-zero q) in
      rw (e, f 1 (lit< tt), f 2 (lit< tt), f 3 (lit< tt), f 4 (lit< tt), f 5 (lit< tt), f 6 (lit< tt), f 7 (lit< tt))

  -- word i of a block
  part_same : (p q : ℕ) → ((k : ℕ) → k < 128 → at a (p + k) ≡ at b (q + k)) → (i : ℕ) → i < 16
      → word_at a (p + i * 8) ≡ word_at b (q + i * 8)
  part_same p q f i h =
      word_same (p + i * 8) (q + i * 8)
      (λ k l. ap (at a) (add_assoc p (i * 8) k) ∙ f (i * 8 + k) (let z : i * 8 + k < 128 = omega arith in z)
      ∙ ap (at b) (sym (add_assoc q (i * 8) k)))

  pub block_same : (p q : ℕ) → ((k : ℕ) → k < 128 → at a (p + k) ≡ at b (q + k)) → block_at a p ≡ block_at b q
  unfolding block_at
  block_same p q f =
      let g = part_same p q f in
      let e : word_at a p ≡ word_at b q = word_same p q (λ k l. f k (let z : k < 128 = omega arith in z)) in
      rw (
        e,
        g 1 (lit< tt),
        g 2 (lit< tt),
        g 3 (lit< tt),
        g 4 (lit< tt),
        g 5 (lit< tt),
        g 6 (lit< tt),
        g 7 (lit< tt),
        g 8 (lit< tt),
        g 9 (lit< tt),
        g 10 (lit< tt),
        g 11 (lit< tt),
        g 12 (lit< tt),
        g 13 (lit< tt),
        g 14 (lit< tt),
        g 15 (lit< tt),
      )
