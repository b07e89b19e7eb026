-- A line of a variant file in short: POS, REF and ALT, and the tabs that end the first seven fields; of a line that begins with # all but
-- that # and tabs.
use Rattle.std.specs.Prelude.{ℕ, ◌+◌, ◌%◌, ◌^◌, Bool, true, false, cond, ◌&&◌, ◌||◌, List, [], ◌∷◌, None, Some, length, ◌==◌, nat_le, nat_lt, slice_set}
use Rattle.pool_files.specs.Words.{go_on}
use Rattle.pool_files.specs.declared.short.ShortLine.{ShortLine}
use Rattle.pool_files.specs.declared.short.Come.{Come}

-- a line that begins, to be put from a place on
abbrev pub line_at : ℕ → ShortLine
line_at at = record { field = 0; matched = 0; tabs = 0; behind = at; whole = true }

-- POS, REF and ALT, and what stands after a #
unfoldable pub keeps : ℕ → Bool
keeps k = k == 1 || k == 3 || k == 4 || k == 8

-- what a byte of a field does
pub data Act : Type 0 where
  Skip : Act
  Keep : Act
  Name : Act
  Next : Act
  Count : Act
  Comment : Act

-- what a byte of field k does: CHROM is compared, unless a # comes first; POS, REF and ALT are kept, and so are tabs up to the eighth
-- field; later ones are counted
unfoldable pub act_of : ℕ → ℕ → ℕ → Act
act_of k matched b =
    cond (b == 0x09) (cond (nat_lt k 7) Next Count)
    (cond (k == 0) (cond (b == 0x23 && matched == 0) Comment Name)
    (cond (keeps k) Keep Skip))

-- a line, and the buffer that it is put into
pub record Shortened : Type 0 where
  pub line : ShortLine
  pub buffer : List ℕ

-- with a byte put, where there is room for it
unfoldable pub putting : ShortLine → ℕ → List ℕ → Shortened
putting l b d =
    cond (nat_le (length d) l.behind)
    (record { line = record { field = l.field; matched = l.matched; tabs = l.tabs; behind = l.behind; whole = false }; buffer = d })
    (record {
      line = record { field = l.field; matched = l.matched; tabs = l.tabs; behind = l.behind + 1; whole = l.whole };
      buffer = slice_set d
          l.behind b;
    })

-- in field k, with that many bytes of CHROM that are the name's first
abbrev pub in_field : ShortLine → ℕ → ℕ → ShortLine
in_field l k matched = record { field = k; matched = matched; tabs = l.tabs; behind = l.behind; whole = l.whole }

-- with n tabs so far
abbrev pub tabbed : ShortLine → ℕ → ShortLine
tabbed l n = record { field = l.field; matched = l.matched; tabs = n; behind = l.behind; whole = l.whole }

-- with one tab more, as a word of 64 bits counts them
abbrev pub counted : ShortLine → ShortLine
counted l = tabbed l ((l.tabs + 1) % 2 ^ 64)

-- by what a byte does
abbrev pub acted : List ℕ → ShortLine → ℕ → List ℕ → Act → Shortened
acted name l b d Skip = record { line = l; buffer = d }
acted name l b d Keep = putting l b d
acted name l b d Name = record { line = in_field l l.field (go_on name l.matched b); buffer = d }
acted name l b d Next = putting (in_field (counted l) (l.field + 1) l.matched) b d
acted name l b d Count = record { line = counted l; buffer = d }
acted name l b d Comment = record { line = in_field l 8 l.matched; buffer = d }

-- after one byte more
unfoldable pub over_byte : List ℕ → ShortLine → ℕ → List ℕ → Shortened
over_byte name l b d = acted name l b d (act_of l.field l.matched b)

-- what comes of a line, and the buffer then
pub record Outcome : Type 0 where
  pub come : Come
  pub left : List ℕ

-- these bytes, which stand from place `at` on, up to the first line feed
unfoldable pub reading : List ℕ → ShortLine → List ℕ → ℕ → List ℕ → Outcome
reading name l [] at d = record { come = record { line = l; next = None }; left = d }
reading name l (b ∷ s) at d =
    let rest : Outcome = reading name (over_byte name l b d).line s (at + 1) (over_byte name l b d).buffer in
    cond (b == 0x0A) (record { come = record { line = l; next = Some (at + 1) }; left = d }) rest
