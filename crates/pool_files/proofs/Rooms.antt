-- Laws of what a stretch has room for.
use Rattle.std.proofs.Common.{None, Some, ◌≡◌, ℕ, ◌+◌, ◌-◌, ◌<◌, ◌≤◌, true, false, sym, arith, eq-eqb, ne_eqb, le-leb}
use borrow.Author.Tests.{lt-leb}
use Rattle.layout.specs.Bytes.{greatest_stretch}
use Rattle.layout.specs.Sizes.{least_segment}
use Rattle.pool_files.specs.Room.{opened, room_in, with_bases, with_record}
use Rattle.pool_files.specs.declared.held.Held.{Held}

module _ (h : Held) where
  pub room-running : h.running ≡ true → greatest_stretch - h.bytes ≡ room_in h
  unfolding room_in opened
  room-running e = rw e (omega arith)

  pub room-begun : h.running ≡ false → greatest_stretch - h.bytes - least_segment ≡ room_in h
  unfolding room_in opened
  room-begun e = rw e (omega arith)

  pub room_most : room_in h ≤ greatest_stretch
  unfolding room_in
  room_most = omega arith

  module _ (n : ℕ) where
    pub bases-none : n ≡ 0 → Some h ≡ with_bases h n
    unfolding with_bases
    bases-none e = sym (rw (eq-eqb n 0 e))

    pub bases-full : (n ≡ 0 → ⊥) → room_in h < n → None ≡ with_bases h n
    unfolding with_bases room_in
    bases-full e l =
        let far : greatest_stretch < opened h + n = omega arith in
        sym (rw (ne_eqb n 0 e, lt-leb (opened h + n) greatest_stretch far))

    pub bases-fit :
        (n ≡ 0 → ⊥) → n ≤ room_in h → Some (record { bytes = greatest_stretch - (room_in h - n); running = true }) ≡ with_bases h n
    unfolding with_bases room_in
    bases-fit e l =
        let some : 0 < n = omega arith in
        let near : opened h + n ≤ greatest_stretch = omega arith in
        let sum : greatest_stretch - (greatest_stretch - opened h - n) ≡ opened h + n = omega arith in
        rw sum (sym (rw (ne_eqb n 0 e, le-leb (opened h + n) greatest_stretch near)))

    pub record-full : greatest_stretch < h.bytes + n → None ≡ with_record h n
    unfolding with_record
    record-full far = sym (rw (lt-leb (h.bytes + n) greatest_stretch far))

    pub record-fit : h.bytes + n ≤ greatest_stretch → Some (record { bytes = h.bytes + n; running = false }) ≡ with_record h n
    unfolding with_record
    record-fit near = sym (rw (le-leb (h.bytes + n) greatest_stretch near))
