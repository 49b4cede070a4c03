-- Where members begin, and what is kept beside them.
use Rattle.std.specs.Prelude.{ℕ, ◌+◌, ◌<◌, ◌≡◌, ◌^◌, List, [], ◌∷◌, length, None, IsPermutation}
use Rattle.ed_base.specs.declared.piece.Member.{Member}
use Rattle.ed_base.specs.Numbers.{places}
use Rattle.ed_layers.specs.Records.{member_len, members_len}
use Rattle.ed_layers.specs.Order.{overlap_fault}
use Rattle.ed_members.specs.Sorted.{AreSorted}

-- each begins where the one before ends, the first at p
abbrev pub starts_from : ℕ → List Member → List ℕ
starts_from p [] = []
starts_from p (m ∷ ms) = p ∷ starts_from (p + member_len m) ms

-- no two members conflict, there are fewer than 2^32 members and units, and what is kept agrees with them
pub record IsKept (members : List Member) (kept_starts : List ℕ) (kept_len : ℕ) (kept_order : List ℕ) : Type 0 where
  pub few : length members < 2 ^ 32
  pub short : members_len members < 2 ^ 32
  pub apart : overlap_fault members ≡ None
  pub starts : kept_starts ≡ starts_from 0 members
  pub len : kept_len ≡ members_len members
  pub all : IsPermutation (places (length members)) kept_order
  pub sorted : AreSorted members kept_order
