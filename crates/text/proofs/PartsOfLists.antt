-- A part of a list, as far as it is there.
use Prim.Native.Nat.{ℕ, ◌-◌, ◌<◌, ◌≤◌}
use native.Mathlib.Omega.{arith}
use mathlib.Core.Path.{◌≡◌, refl, sym, ◌∙◌}
use mathlib.Core.List.{List, []}
use lib.ListN.{length, take, drop, length-drop, drop_of_length-le}
use lib.Seq.{take_all, take-nil}
use Rattle.text.specs.Compare.{from_to}

module _ (s : List ℕ) (start end : ℕ) where
  pub part-far : length s < start → [] ≡ from_to s start end
  part-far l = let far : length s ≤ start = omega arith in sym (rw (drop_of_length-le s far) (take-nil (end - start)))

  pub part_none : end < start → [] ≡ from_to s start end
  part_none l = let none : end - start ≡ 0 = omega arith in sym (rw none refl)

  pub part-front : length s < end → take (length s - start) (drop start s) ≡ from_to s start end
  part-front l =
      let left : length (drop start s) ≡ length s - start = length-drop start s in
      let few : length (drop start s) ≤ length s - start = omega arith in
      let enough : length (drop start s) ≤ end - start = omega arith in
      take_all (length s - start) (drop start s) few ∙ sym (take_all (end - start) (drop start s) enough)
