-- The pattern as a strand reads it, in the first m of 64 bytes: what the calls rest on.
use Prim.Native.Nat.{ℕ, ◌≤◌}
use native.Mathlib.Omega.{arith}
use mathlib.Core.Path.{◌≡◌, sym, subst}
use mathlib.Core.Bool.{true}
use mathlib.Core.List.{List}
use lib.ListN.{length, take, length-take}
use Rattle.text.specs.Refusal.{SoundPattern}
use Rattle.text.specs.State.{is_state}
use Rattle.text.specs.Strand.{on_strand, read_on}
use Rattle.text.specs.declared.strand.Strand.{Strand}
use Rattle.text.proofs.Strands.{strand-sound, part-read, part_length}
use Rattle.search.specs.Masks.{StateOf}
use Rattle.search.proofs.Entries.{state-of}

module _ (strand : Strand) (P bytes : List ℕ) (e : bytes ≡ read_on strand P) (y : SoundPattern P) where
  pub read_is : take (length P) bytes ≡ on_strand strand P
  read_is = part-read strand P bytes e y.short

  pub read_length : length P ≡ length (take (length P) bytes)
  read_length = part_length strand P bytes e y.short

  pub read-room : length P ≤ length bytes
  read-room = omega (arith, read_length, length-take (length P) bytes)

  pub read-sound : SoundPattern (take (length P) bytes)
  read-sound = subst SoundPattern (sym read_is) (strand-sound strand P y)

  -- a state of the one is a state of the other
  pub read-state : (st : ℕ) → is_state (length P) st ≡ true → StateOf (take (length P) bytes) st
  read-state st i = state-of (take (length P) bytes) st (rw (← read_length) i)
