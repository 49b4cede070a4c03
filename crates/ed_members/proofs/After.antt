-- Members after the steps of their sources, by what they hold and what the next begins with.
use Rattle.std.proofs.Common.{◌≡◌, ℕ, ◌+◌, ◌<◌, ◌≤◌, List, [], ◌∷◌, ◌++◌, length, map, drop, get_or, Option, Some, None, refl, sym, ap, subst, ◌∙◌}
use Rattle.std.specs.Prelude.{slice_get, slice_index, min, option_map, unwrap_or, IsPermutation, if◌then◌else◌}
use Rattle.std.specs.Option.{option_map_or}
use Rattle.std.specs.List.{enumerate_from}
use Rattle.std.proofs.lemmas.List.{append-nil, append_assoc, drop_all, length-map}
use Rattle.std.proofs.lemmas.List.FromFn.{length-enumerate_from}
use Rattle.std.proofs.lemmas.Option.{slice_get-get_or}
use Rattle.ed_base.specs.declared.edit.Span.{Span}
use Rattle.ed_base.specs.declared.mode.SpanMode.{SpanMode}
use Rattle.ed_base.specs.declared.piece.Member.{Member}
use Rattle.ed_base.specs.Numbers.{places}
use Rattle.ed_base.specs.Spans.{span_between}
use Rattle.ed_base.specs.Tracking.{positive_edge}
use Rattle.ed_base.proofs.NormalLists.{rest_at}
use Rattle.ed_layers.specs.Bounds.{Placed, held_range, member_after, members_after, new_bounds, next_start, placed_on}
use Rattle.ed_layers.specs.Order.{is_inclusive}
use Rattle.ed_layers.specs.SourceStep.{SourceStep}
use Rattle.ed_members.specs.declared.held.Held.{Held}
use Rattle.ed_members.specs.Advance.{AreHeld, bounds_with, held_span, moved_by}
use Rattle.ed_members.specs.Nexts.{key_if, next_in, source_at}
use Rattle.ed_members.specs.Sorted.{AreSorted}
use Rattle.ed_members.proofs.NextStarts.{next_is, placed}
use Rattle.ed_members.proofs.Permuted.{place_of}
use Rattle.ed_members.proofs.Putting.{below_at}

-- the bounds, with the definition's words
bounds_are : (carrier : ℕ) (s : SourceStep) (all : List Placed) (mode : SpanMode) (m : Placed) (held : Option Held) (next : Option ℕ) → option_map held_span held ≡ held_range carrier s m → next ≡ next_start carrier s all m
    → bounds_with s.step mode m.bounds held next ≡ new_bounds carrier s all mode m
unfolding new_bounds
bounds_are carrier s all mode m held next is next_is =
    ap (λ (o : Option ℕ). bounds_with s.step mode m.bounds held o) next_is
    ∙ ap (λ (o : Option Span). if is_inclusive mode then span_between 0 s.step.new_len else unwrap_or o (span_between (option_map_or (min (positive_edge s.step m.bounds.start)) (next_start carrier s all m) (positive_edge s.step m.bounds.start)) (option_map_or (min (positive_edge s.step m.bounds.start)) (next_start carrier s all m) (positive_edge s.step m.bounds.start)))) is

module _ (me : ℕ) (steps : ℕ → Option SourceStep) (ms : List Member) (held : List (Option Held)) (nexts : List (Option ℕ)) (order : List ℕ) (are : AreHeld me steps ms held) (sorted : AreSorted ms order) (permuted : IsPermutation (places (length ms)) order)
    (follow : (p : ℕ) → p < length order → get_or nexts (slice_index order p) None ≡ next_in ms held (source_at ms (slice_index order p)) (drop (p + 1) order)) where
  next_of : (k source : ℕ) (bounds : Span) (mode : SpanMode) (s : SourceStep) → slice_get ms k ≡ Some (Member.Tracked source bounds mode) → steps source ≡ Some s → get_or nexts k None ≡ next_start me s (placed_on source (enumerate_from 0 ms)) (placed k bounds)
  next_of k source bounds mode s at is =
      let pos : (p : ℕ) × (p < length order) × (slice_index order p ≡ k) = place_of (length ms) order permuted k (below_at ms k (Member.Tracked source bounds mode) at) in
      let at' : slice_get ms (slice_index order pos.0) ≡ Some (Member.Tracked source bounds mode) = ap (slice_get ms) pos.2 ∙ at in
      subst (λ (i : ℕ). get_or nexts i None ≡ next_start me s (placed_on source (enumerate_from 0 ms)) (placed i bounds)) pos.2
      (follow pos.0 pos.1 ∙ (ap (λ (key : ℕ). next_in ms held key (drop (pos.0 + 1) order)) (ap key_if at') ∙ next_is ms order sorted permuted held me source steps s is are pos.0 bounds mode pos.1 at'))

  moved_is : (k : ℕ) (x : Member) → slice_get ms k ≡ Some x → moved_by steps (get_or held k None) (get_or nexts k None) x ≡ member_after me steps ms (k, x)
  moved_is k (Member.Literal u) at = refl
  moved_is k (Member.Tracked source bounds mode) at = by_step (steps source) refl
    where
      by_step : (o : Option SourceStep) → steps source ≡ o → Member.Tracked source (option_map_or (λ (s : SourceStep). bounds_with s.step mode bounds (get_or held k None) (get_or nexts k None)) o bounds) mode
          ≡ Member.Tracked source (option_map_or (λ (s : SourceStep). new_bounds me s (placed_on source (enumerate_from 0 ms)) mode (placed k bounds)) o bounds) mode
      by_step None is = refl
      by_step (Some s) is = ap (λ (b : Span). Member.Tracked source b mode)
          (bounds_are me s (placed_on source (enumerate_from 0 ms)) mode (placed k bounds) (get_or held k None) (get_or nexts k None) (are.each k source bounds mode s at is) (next_of k source bounds mode s at is))

  -- one member more
  pub moved_more : (k : ℕ) (x m : Member) (list list' : List Member) → k < length ms → x ≡ get_or ms k x → m ≡ moved_by steps (get_or held k None) (get_or nexts k None) x → list' ≡ list ++ m ∷ []
      → list ++ map (member_after me steps ms) (enumerate_from k (drop k ms)) ≡ members_after me steps ms → list' ++ map (member_after me steps ms) (enumerate_from (k + 1) (drop (k + 1) ms)) ≡ members_after me steps ms
  moved_more k x m list list' below read is pushed before =
      let rest : drop k ms ≡ x ∷ drop (k + 1) ms = rest_at ms k x below read in
      let here : m ≡ member_after me steps ms (k, x) = is ∙ moved_is k x (slice_get-get_or ms k x below ∙ ap Some (sym read)) in
      let tail : List Member = map (member_after me steps ms) (enumerate_from (k + 1) (drop (k + 1) ms)) in
      ap (λ (xs : List Member). xs ++ tail) pushed
      ∙ (append_assoc list (m ∷ []) tail ∙ (ap (λ (y : Member). list ++ (y ∷ tail)) here ∙ (ap (λ (xs : List Member). list ++ map (member_after me steps ms) (enumerate_from k xs)) (sym rest) ∙ before)))

pub moved_end : (me : ℕ) (steps : ℕ → Option SourceStep) (ms list : List Member) (k : ℕ) → length ms ≤ k → list ++ map (member_after me steps ms) (enumerate_from k (drop k ms)) ≡ members_after me steps ms → list ≡ members_after me steps ms
moved_end me steps ms list k past before =
    sym (append-nil list) ∙ (ap (λ (xs : List Member). list ++ map (member_after me steps ms) (enumerate_from k xs)) (sym (drop_all k ms past)) ∙ before)

pub length_after : (me : ℕ) (steps : ℕ → Option SourceStep) (ms : List Member) → length (members_after me steps ms) ≡ length ms
length_after me steps ms = length-map (enumerate_from 0 ms) (member_after me steps ms) ∙ length-enumerate_from 0 ms
