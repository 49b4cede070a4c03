-- Why members can't stand together.
use Rattle.std.specs.Prelude.{ℕ, ◌+◌, List, ◌++◌, take, drop, find, Option, Some, None, option_map, unwrap_or}
use Rattle.std.specs.List.{enumerate_from}
use Rattle.ed_base.specs.declared.piece.Member.{Member}
use Rattle.ed_base.specs.declared.refusal.Refusal.{Refusal}
use Rattle.ed_base.specs.Numbers.{or_else}
use Rattle.ed_layers.specs.Records.{version_in}
use Rattle.ed_layers.specs.Order.{conflict, fails_to_cover, mode_fault, overlap_fault}
use Rattle.ed_members.specs.declared.fault.MemberFault.{MemberFault}

-- the length that is listed for a source
abbrev pub len_in : List (ℕ × ℕ) → ℕ → ℕ
len_in lengths source = unwrap_or (version_in lengths source) 0

-- the index of the first member that is to cover its source and doesn't
abbrev pub first_uncovered : (ℕ → ℕ) → List Member → Option ℕ
first_uncovered source_len members = option_map (λ im. im.0) (find (λ im. fails_to_cover source_len im.1) (enumerate_from 0 members))

-- the first member from an index on that the member conflicts with
abbrev pub other_from : List Member → ℕ × Member → ℕ → Option ℕ
other_from members m j = option_map (λ other. other.0) (find (conflict m) (enumerate_from j (drop j members)))

-- the refusal of a fault
abbrev pub refusal_of : MemberFault → Option Refusal
refusal_of (MemberFault.Mode index) = Some (Refusal.Mode index)
refusal_of (MemberFault.Overlap index other) = Some (Refusal.Overlap index other)
refusal_of MemberFault.OutOfMemory = None

-- the first member that doesn't cover its source, and where there is none the first conflict
abbrev pub first_fault : (ℕ → ℕ) → List Member → Option Refusal
first_fault source_len members = or_else (mode_fault source_len members) (overlap_fault members)

-- the members with `count` of them from `first` on replaced
abbrev pub replaced : List Member → ℕ → ℕ → List Member → List Member
replaced members first count added = take first members ++ added ++ drop (first + count) members
