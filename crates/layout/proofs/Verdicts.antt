-- Laws of the letters of a variant: where the first wrong one stands.
use Rattle.std.proofs.Common.{◌≡◌, ℕ, ◌+◌, ◌-◌, ◌≤◌, List, length, take, drop, refl, ap, ◌∙◌, arith}
use Rattle.text.specs.Letter.{letter, first_not}
use Rattle.text.specs.Text.{Variant}
use Rattle.text.specs.Refusal.{refused, outcome}
use Rattle.text.specs.declared.refusal.Refusal.{Refusal}
use Rattle.text.proofs.Letters.{first-le}
use Rattle.layout.specs.Pieces.{head_at, misspelt_at}
use Rattle.layout.specs.declared.pieces.Part.{Part}
use Rattle.layout.proofs.Heads.{Whole, head-found, whole_part, whole_length}
use Rattle.std.specs.Prelude.{Result, Err}

pub misspelt-cut : (s : List ℕ) (at : ℕ) {r : Result Part Refusal} {f : Refusal} → outcome r ≡ head_at s at → r ≡ Err f
    → misspelt_at s at ≡ refused f.number f.place
unfolding misspelt_at
misspelt-cut s at told is = rw (← told, is)

module _
    (s : List ℕ) (at start next : ℕ) (w : Whole s at start next) (x : ℕ)
    (e : x ≡ first_not letter (take (next - start) (drop start s))) where
  -- the place lies in the bytes
  pub misspelt-inside : start + x ≤ length s
  misspelt-inside =
      let v : Variant = take (next - start) (drop start s) in
      let long : length v ≡ next - start = ap length (whole_part s at start next w) ∙ whole_length s at start next w in
      omega (arith, first-le letter v, w.starts, w.ends, w.inside)

  pub misspelt-found : misspelt_at s at ≡ refused 7 (start + x)
  unfolding misspelt_at
  misspelt-found = rw (head-found s at _ refl w.inside, e, whole_part s at start next w, w.starts)
