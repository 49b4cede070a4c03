-- The way of a group through all buffers, in the order of the graph.
use Rattle.std.specs.Prelude.{◌≡◌, ◌⊎◌, All, ℕ, ◌<◌, ◌≤◌, ◌^◌, true, false, List, ◌∷◌, ◌++◌, length, map, fold, slice_get, is_some, Option, Result, Ok, Err, Some}
use Rattle.std.specs.List.{AllByRecursion as Each}
use Rattle.ed_base.specs.Numbers.{is_among}
use Rattle.ed_base.specs.declared.piece.Member.{Member}
use Rattle.ed_layers.specs.Owning.{OwnInside, OwnInOrder}
use Rattle.ed_layers.specs.Records.{members_len, members_of, projection, sources_of}
use Rattle.ed_layers.specs.SourceStep.{SourceStep}
use Rattle.ed_members.specs.Moving.{EndsInNew}
use Rattle.ed_project.specs.declared.ProjectionFault.{ProjectionFault}
use Rattle.ed_stock.specs.Stock.{Stock, now, record_now, text_at, text_now, count}
use Rattle.ed_stock.specs.Versions.{Rising, is_moved, risen_at, none_given, step_in}
use Rattle.ed_version.specs.declared.Snapshot.{Snapshot}
use Rattle.ed_held.specs.declared.held.Held.{Held}
use Rattle.ed_held.specs.declared.moves.Move.{Move}
use Rattle.ed_climb.specs.Climbing.{record_after}
use Rattle.ed_held.specs.Moves.{AreApart, IsPlannedAt, move_of, move_seen, rising_of, snapshot_of}
use Rattle.ed_risen.specs.Rising.{IsSettled, Rises}
use Rattle.ed_held.specs.Seen.{Known, known, stock_of}

-- The buffers before, their heights, those that may have other sources than before, those that are done before the way begins, and what has happened by then.
pub record Route : Type 0 where
  pub before : List Known
  pub height : ℕ → ℕ
  pub start : List ℕ
  pub initial : List ℕ
  pub first : Rising

-- each buffer has its number, and its texts are those that the definitions give
pub record AreTrue (ks : List Known) : Type 0 where
  pub numbered : (b : ℕ) (k : Known) → slice_get ks b ≡ Some k → k.number ≡ b
  pub texts : (b v : ℕ) (k : Known) (t : List ℕ) → slice_get ks b ≡ Some k → slice_get k.texts v ≡ Some t → text_at (stock_of ks) b v ≡ t

-- A buffer on the way: it comes once, behind its sources, which stand lower.
pub record IsReached (w : Route) (passed : List ℕ) (b : ℕ) : Type 0 where
  pub there : b < count (stock_of w.before)
  pub fresh : is_among b passed ≡ false
  pub shallow : w.height b ≤ 8
  pub low : is_among b w.start ≡ false → Each (λ v. (is_among v.0 passed ≡ true) × (v.0 < count (stock_of w.before)) × (w.height v.0 < w.height b)) (sources_of (record_now (stock_of w.before) b))

-- what members own of their sources' steps is theirs, in order
pub record KeepTheirs (b : ℕ) (steps : ℕ → Option SourceStep) (members : List Member) : Type 0 where
  pub inside : OwnInside b steps members
  pub order : OwnInOrder b steps members

-- That is so of each projection that goes along, when it comes.
abbrev pub AllKeepTheirs : Stock → Rising → List ℕ → Type 0
AllKeepTheirs s first order = (passed rest : List ℕ) (b : ℕ) (members : List Member) (sources : List (ℕ × ℕ)) → order ≡ passed ++ b ∷ rest → record_now s b ≡ projection members sources
    → is_moved (fold (risen_at none_given) first passed) b ≡ true → KeepTheirs b (step_in (fold (risen_at none_given) first passed).moves) members

-- the way through these buffers
pub record IsRoute (w : Route) (order : List ℕ) : Type 0 where
  pub settled : IsSettled (stock_of w.before)
  pub true : AreTrue (w.before)
  pub reached : (passed rest : List ℕ) (b : ℕ) → order ≡ passed ++ b ∷ rest → IsReached w passed b
  pub theirs : AllKeepTheirs (stock_of w.before) w.first order

-- the current version of a buffer of a stock
abbrev pub newest : Stock → ℕ → Snapshot
newest s b = record { buffer = b; version = now s b; text = text_now s b }

abbrev pub IsNewest : Stock → Move → Type 0
IsNewest s m = snapshot_of m.planned ≡ newest s m.buffer

-- Some of the way is gone: these buffers were passed, these are done, and these versions are planned.
pub record Climbs (w : Route) (passed done : List ℕ) (hs : List Held) (ms : List Move) : Type 0 where
  pub same : map known hs ≡ w.before
  pub rises : Rises (stock_of w.before) w.height w.start done (rising_of (stock_of w.before) ms)
  pub folded : fold (risen_at none_given) w.first passed ≡ rising_of (stock_of w.before) ms
  pub planned : Each (IsPlannedAt hs) ms
  pub apart : AreApart ms
  pub known_buffers : Each (λ m. m.buffer < count (stock_of w.before)) ms
  pub at_once : (c : ℕ) → is_among c w.initial ≡ true → is_among c done ≡ true
  pub newest : Each (IsNewest (rising_of (stock_of w.before) ms).stock) ms
  pub quiet : (c : ℕ) → is_among c w.initial ≡ true → is_moved (rising_of (stock_of w.before) ms) c ≡ false
  pub begun : (c : ℕ) → is_among c w.start ≡ true → is_some (move_of ms c) ≡ true
  pub origin : (c : ℕ) → is_among c done ≡ true → (is_among c passed ≡ true) ⊎ (is_among c w.initial ≡ true)
  pub covers : (c : ℕ) → is_among c passed ≡ true → is_among c done ≡ true
  pub fits : (c : ℕ) → c < count (stock_of w.before) → length (text_now (rising_of (stock_of w.before) ms).stock c) ≤ 2 ^ 22

-- Some of the way is gone, and the version that comes next is longer than a text may be: so long.
pub record IsTooLong (w : Route) (order : List ℕ) (len : ℕ) : Type 0 where
  pub passed : List ℕ
  pub rest : List ℕ
  pub b : ℕ
  pub done : List ℕ
  pub hs : List Held
  pub ms : List Move
  pub h : Held
  pub split : order ≡ passed ++ b ∷ rest
  pub climbs : Climbs w passed done hs ms
  pub held : slice_get hs b ≡ Some h
  pub moved : is_moved (rising_of (stock_of w.before) ms) b ≡ true
  pub len_is : members_len (members_of (record_after hs ms (step_in (map move_seen ms)) (known h))) ≡ len
  pub long : 2 ^ 22 < len
  pub ends : All (EndsInNew (step_in (map move_seen ms))) (members_of (record_after hs ms (step_in (map move_seen ms)) (known h)))

-- all of the way is gone, or not, since a text would be too long
abbrev pub HasClimbed : Route → List ℕ → List Held → List Move → Result (Unit {0}) ProjectionFault → Type 0
HasClimbed w order hs ms (Ok x) = (done : List ℕ) × Climbs w order done hs ms
HasClimbed w order hs ms (Err e) = (e ≡ ProjectionFault.OutOfMemory) ⊎ ((len : ℕ) × (e ≡ ProjectionFault.Units len) × IsTooLong w order len)
