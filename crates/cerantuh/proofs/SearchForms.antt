-- What a search form answers and leaves, from what the search tells.
use Prim.Native.Nat.{ℕ, ◌+◌, ◌*◌, ◌^◌, ◌≤◌, ◌<◌}
use native.Mathlib.Omega.{arith}
use mathlib.Core.Path.{◌≡◌, refl, sym, ap, ◌∙◌}
use mathlib.Core.List.{List}
use lib.ListN.{length}
use Rattle.text.specs.Text.{Text}
use Rattle.text.specs.Refusal.{ok, after}
use Rattle.text.specs.declared.refusal.Refusal.{Refusal}
use Rattle.layout.specs.Bytes.{over}
use Rattle.layout.specs.Bytes.{left_by}
use Rattle.search.specs.Answers.{Sums, searching, told_searched}
use Rattle.search.specs.declared.searching.Searched.{Searched}
use Rattle.search.specs.declared.searching.Searched.TheVariants.{Marked}
use Rattle.cerantuh.specs.Forms.{coded, low_first, sums_block, searching_into}
use Rattle.cerantuh.proofs.Blocks.{three-put}
use Rattle.cerantuh.proofs.Codes.{searching-coded, coded-fits}
use Rattle.cerantuh.proofs.Rooms.{told-code, Formed, formed, search-room, search-short, left-short}

-- what is told of a search, and left in its block
abbrev Told : Searched → ℕ → List ℕ → List ℕ → Type 0
Told x r d left = (r ≡ coded (told_searched x)) × (left ≡ left_by sums_block (told_searched x) d)

module _ (x : Searched) (d : List ℕ) where
  pub told-not : (w : Refusal) (r : ℕ) → x ≡ Searched.Refused w → r ≡ w.number + 256 * w.place → Told x r d d
  told-not w r e is = rw e (is, refl)

  pub told-fits : (w : Refusal) → x ≡ Searched.Refused w → coded (told_searched x) < 2 ^ 64 → w.number + 256 * w.place < 2 ^ 64
  told-fits w e l = rw e at l

  pub told-put :
      (n z m : ℕ) (a b left : List ℕ) → x ≡ Marked n z m → 24 ≤ length d →
      a ≡ over d 0 (low_first 8 n) → b ≡ over a 8 (low_first 8 z) → left ≡ over b 16 (low_first 8 m) → Told x 0 d left
  unfolding sums_block
  told-put n z m a b left e l f g h = rw e (refl, h ∙ rw (g, f) (three-put d n z m (omega arith)))

module _ (f : Text → List ℕ) (g : Text → Sums) (P s marks block : List ℕ) where
  -- what a search form promises of its answer, of the mark buffer and of the block
  abbrev Form : ℕ → List ℕ → List ℕ → Type 0
  Form = Formed f g sums_block (searching_into P s (length marks) (length block)) marks block

  pub form-short : (r : ℕ) → length block < 24 → r ≡ coded (searching_into P s 0 0) → Form r marks block
  form-short r l is =
      let none : 0 < 24 = omega arith in (
        is ∙ ap coded (search-short P s 0 0 none ∙ sym (search-short P s (length marks) (length block) l)),
        (
          sym (left-short P s (length marks) (length block) f marks l),
          sym (left-short P s (length marks) (length block) (λ t. sums_block (g t)) block l),
        ),
      )

  module _ (x : Searched) (told : told_searched x ≡ after (searching P s (length marks)) (λ t. ok (g t))) where
    pub searched-fits : coded (told_searched x) < 2 ^ 64
    searched-fits =
        rw told (rw (told-code (searching P s (length marks)) g)
        (coded-fits (searching P s (length marks)) (searching-coded P s (length marks))))

    pub form-room :
        (r : ℕ) (marks' block' : List ℕ) → 24 ≤ length block → marks' ≡ left_by f (searching P s (length marks)) marks →
        Told x r block block' → Form r marks' block'
    form-room r marks' block' l wrote (is, left) =
        rw (search-room P s (length marks) (length block) l)
        (formed f g sums_block (searching P s (length marks)) marks block (told_searched x) told r marks' block' wrote is left)
