-- What the structs of a block in work stand for. A count and an array stand for the list of the array's first entries; a count past the
-- array's end shows in the list's length. Entries past a count stand for nothing.
use Rattle.std.specs.Prelude.{◌≡◌, refl, cond, List, [], ◌∷◌, ℕ, suc, ◌≤◌, ◌<◌, eqb, ltb, length, get_or, drop, replicate, Option, None, Some}
use Rattle.std.proofs.Common.{lt-ltb, le-ltb}
use Rattle.theory.specs.Lists.{tab, length_tab}
use Rattle.theory.specs.Engine as E
use Rattle.machine.specs.Limits.{FEW}
use Rattle.rules.specs.declared.block.Entry.{Entry}
use Rattle.rules.specs.declared.block.Journal.{Journal}
use Rattle.rules.specs.declared.block.Versions.{Versions}
use Rattle.rules.specs.declared.block.Read.{Read}
use Rattle.rules.specs.declared.block.Reads.{Reads}
use Rattle.rules.specs.declared.versions.Version.{Version}

-- what an array holds past its end
abbrev pub no_entry : Entry
no_entry = record { cell = record { 0 = 0 }; value = 0 }

abbrev pub entry_of : Entry → E.Entry
entry_of e = record { cell = e.cell.0; value = e.value }

-- the first n entries of a journal; all of them
unfoldable pub entries_of : ℕ → Journal → List E.Entry
entries_of n j = tab n (λ k. entry_of (get_or j.entries k no_entry))

abbrev pub journal_of : Journal → List E.Entry
journal_of j = entries_of j.size j

pub length_journal : (j : Journal) → length (journal_of j) ≡ j.size
unfolding entries_of
length_journal j = length_tab j.size (λ k. entry_of (get_or j.entries k no_entry))

-- the entry that the k-th version names; one past the array's end names nothing
unfoldable pub number_at : Versions → ℕ → ℕ
number_at v k = cond (ltb k 8) (get_or v.numbers k 0) 255

pub number_low : (v : Versions) (k : ℕ) → k < 8 → get_or v.numbers k 0 ≡ number_at v k
unfolding number_at
number_low v k l = rw (lt-ltb k 8 l) refl

pub number_past : (v : Versions) (k : ℕ) → 8 ≤ k → 255 ≡ number_at v k
unfolding number_at
number_past v k l = rw (le-ltb k 8 l) refl

unfoldable pub versions_of : Versions → List ℕ
versions_of v = tab v.size (number_at v)

abbrev pub no_journal : Journal
no_journal = record { entries = []; size = 0 }

abbrev pub no_versions : Versions
no_versions = record { numbers = []; size = 0 }

-- versions that are few, and name entries of the journal
pub record Showing (j : Journal) (v : Versions) : Type 0 where
  pub entries : j.size ≤ 8
  pub numbers : v.size ≤ 8
  pub named : (k : ℕ) → k < v.size → get_or v.numbers k 0 < j.size

-- .. of the jobs at the indices below n
pub record ShowingBelow (js : List Journal) (vs : List Versions) (n : ℕ) : Type 0 where
  pub showing : (k : ℕ) → k < n → Showing (get_or js k no_journal) (get_or vs k no_versions)

-- the version of a cell that the job at index k shows
unfoldable pub version_at : List Journal → List Versions → ℕ → ℕ → Option ℕ
version_at js vs k c = E.value_at (journal_of (get_or js k no_journal)) (E.shown_at (journal_of (get_or js k no_journal)) (versions_of (get_or vs k no_versions)) c)

-- what a reader of a cell finds that has the jobs at the indices below n below it
unfoldable pub found_in : List Journal → List Versions → ℕ → ℕ → ℕ → ℕ × ℕ
found_in js vs start c n = E.search start (λ k. version_at js vs k c) n

unfoldable pub version_of : Version → ℕ × ℕ
version_of v = (v.source.0, v.value)

-- the k-th entry as a version, if it is the last of its cell
unfoldable pub last_one : List E.Entry → ℕ → List ℕ
last_one j k = cond (E.writes? (drop (suc k) j) (get_or j k E.no_entry).cell) [] (k ∷ [])

-- the version that names entry v, if it stands before the n-th entry
unfoldable pub kept_one : ℕ → ℕ → List ℕ
kept_one n v = cond (ltb v n) (v ∷ []) []

-- ---- marks
unfoldable pub mark_of : ℕ → Option ℕ
mark_of m = cond (eqb m 255) None (Some m)

unfoldable pub mark_byte : Option ℕ → ℕ
mark_byte None = 255
mark_byte (Some m) = m

abbrev pub no_read : Read
no_read = record { cell = record { 0 = 0 }; source = record { 0 = 0 }; value = 0 }

-- a journal, versions and a list of reads of nothing, to the last byte
abbrev pub empty_journal : Journal
empty_journal = record { entries = replicate FEW no_entry; size = 0 }

abbrev pub empty_versions : Versions
empty_versions = record { numbers = replicate FEW 0; size = 0 }

abbrev pub empty_reads : Reads
empty_reads = record { reads = replicate FEW no_read; size = 0; mark = 255 }

abbrev pub no_reads : Reads
no_reads = record { reads = []; size = 0; mark = 0 }
