-- Where members begin.
use Rattle.std.proofs.Common.{◌≡◌, ℕ, zero, suc, ◌+◌, ◌<◌, ◌≤◌, List, [], ◌∷◌, ◌++◌, length, get_or, take, drop, refl, sym, ◌∙◌, ap, arith}
use Rattle.std.specs.Prelude.{slice_index, sum_by}
use Rattle.std.specs.Option.{option_map_or}
use Rattle.std.proofs.lemmas.List.{drop-drop}
use Rattle.std.proofs.lemmas.List.Sums.{sum_by-append, sum_by-cons, sum_by-take-drop, sum_by_more_le}
use Rattle.std.proofs.lemmas.Option.{slice_get-get_or}
use Rattle.ed_base.specs.declared.edit.Span.{Span}
use Rattle.ed_base.specs.declared.piece.Member.{Member}
use Rattle.ed_layers.specs.Records.{member_len, members_len, placement}
use Rattle.ed_members.specs.Faults.{replaced}
use Rattle.ed_members.specs.Starts.{starts_from, IsKept}

pub length-starts_from : (ms : List Member) (p : ℕ) → length (starts_from p ms) ≡ length ms
length-starts_from [] p = refl
length-starts_from (m ∷ ms) p = ap suc (length-starts_from ms (p + member_len m))

start_at : (ms : List Member) (p i : ℕ) → i < length ms → slice_index (starts_from p ms) i ≡ p + sum_by member_len (take i ms)
start_at [] p i h = absurd (omega arith)
start_at (m ∷ ms) p zero h = omega arith
start_at (m ∷ ms) p (suc i) h =
    let further : slice_index (starts_from (p + member_len m) ms) i ≡ (p + member_len m) + sum_by member_len (take i ms) = start_at ms (p + member_len m) i (omega arith) in
    let first : sum_by member_len (m ∷ take i ms) ≡ member_len m + sum_by member_len (take i ms) = sum_by-cons member_len m (take i ms) in
    further ∙ (let e : (p + member_len m) + sum_by member_len (take i ms) ≡ p + sum_by member_len (m ∷ take i ms) = omega arith in e)

abbrev pub span_of : ℕ → ℕ → Span
span_of start len = record { start = start; len = len }

pub same_span : (a b : ℕ) (s : Span) → a ≡ s.start → b ≡ s.len → span_of a b ≡ s
same_span a b s e f = ap (λ x. span_of x b) e ∙ ap (λ x. span_of s.start x) f

-- what is kept of a member's place
pub record PlaceKept (members : List Member) (ds : List ℕ) (i : ℕ) (m : Member) : Type 0 where
  pub there : i < length ds
  pub start : slice_index ds i ≡ (placement members i).start
  pub len : member_len m ≡ (placement members i).len
  pub within : slice_index ds i + member_len m ≤ members_len members

pub place_kept : (ms self : List Member) (starts ds : List ℕ) (total i : ℕ) (m : Member) (kept_order : List ℕ) → IsKept ms starts total kept_order → ms ≡ self → ds ≡ starts → i < length self → m ≡ get_or self i m → PlaceKept self ds i m
place_kept ms self starts ds total i m kept_order k e d h read =
    let same : ds ≡ starts_from 0 self = d ∙ (k.starts ∙ ap (starts_from 0) e) in
    let long : length ds ≡ length self = ap length same ∙ length-starts_from self 0 in
    let begins : slice_index ds i ≡ 0 + sum_by member_len (take i self) = ap (λ xs. slice_index xs i) same ∙ start_at self 0 i h in
    let fits : sum_by member_len (take i self) + member_len (get_or self i m) ≤ sum_by member_len self = sum_by_more_le member_len self i m h in
    let read_len : member_len m ≡ member_len (get_or self i m) = ap member_len read in
    record {
      there = omega arith;
      start = begins ∙ (let z : 0 + sum_by member_len (take i self) ≡ sum_by member_len (take i self) = omega arith in z);
      len = read_len ∙ sym (ap (λ o. option_map_or member_len o 0) (slice_get-get_or self i m h));
      within = omega arith;
    }

pub there_kept : (ms self : List Member) (starts ds : List ℕ) (total i : ℕ) (kept_order : List ℕ) → IsKept ms starts total kept_order → ms ≡ self → ds ≡ starts → i < length self → i < length ds
there_kept ms self starts ds total i kept_order k e d h =
    let long : length ds ≡ length self = ap length (d ∙ (k.starts ∙ ap (starts_from 0) e)) ∙ length-starts_from self 0 in
    omega arith

-- replacing members leaves no more units than before and those that are added
pub members_len-replaced : (ms : List Member) (first count : ℕ) (added : List Member) → members_len (replaced ms first count added) ≤ members_len ms + members_len added
members_len-replaced ms first count added =
    let kept = take first ms in
    let rest = drop (first + count) ms in
    let whole : sum_by member_len (kept ++ added ++ rest) ≡ sum_by member_len (kept ++ added) + sum_by member_len rest = sum_by-append member_len (kept ++ added) rest in
    let before : sum_by member_len (kept ++ added) ≡ sum_by member_len kept + sum_by member_len added = sum_by-append member_len kept added in
    let split : sum_by member_len kept + sum_by member_len (drop first ms) ≡ sum_by member_len ms = sum_by-take-drop member_len ms first in
    let further : sum_by member_len (take count (drop first ms)) + sum_by member_len (drop count (drop first ms)) ≡ sum_by member_len (drop first ms) = sum_by-take-drop member_len (drop first ms) count in
    let same : sum_by member_len (drop count (drop first ms)) ≡ sum_by member_len rest = ap (sum_by member_len) (drop-drop count first ms) in
    omega arith
