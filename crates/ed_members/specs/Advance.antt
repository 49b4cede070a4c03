-- How members go along: what each holds, and what the next one begins with.
use Rattle.std.specs.Prelude.{◌≡◌, ℕ, ◌+◌, Bool, false, List, [], ◌∷◌, length, nat_eq, nat_lt, min, max, option_map, option_and_then, unwrap_or, slice_get, slice_index_or, Option, Some, None, if◌then◌else◌}
use Rattle.std.specs.Option.{option_map_or}
use Rattle.ed_base.specs.declared.edit.Span.{Span}
use Rattle.ed_base.specs.declared.mode.SpanMode.{SpanMode}
use Rattle.ed_base.specs.declared.piece.Member.{Member}
use Rattle.ed_base.specs.Spans.{end_of, span_between}
use Rattle.ed_base.specs.ChangeList.{step, AreNormalFrom}
use Rattle.ed_base.specs.Step.{Step}
use Rattle.ed_base.specs.Tracking.{positive_edge, negative_edge}
use Rattle.ed_layers.specs.Order.{is_inclusive}
use Rattle.ed_layers.specs.Pieces.{last_pair}
use Rattle.ed_layers.specs.SourceStep.{SourceStep, ends_with}
use Rattle.ed_layers.specs.Bounds.{held_range}
use Rattle.ed_members.specs.declared.held.Held.{Held}
use Rattle.ed_members.specs.declared.steps.SourceStep as given
use Rattle.ed_pieces.specs.Trails.{AreRising}
use Rattle.ed_pieces.specs.declared.trails.TrailRun.{TrailRun}

-- the index of the first step of a source, where the first of these has index k
abbrev pub index_from : ℕ → ℕ → List given.SourceStep → Option ℕ
index_from k source [] = None
index_from k source (s ∷ ss) = if nat_eq s.source source then Some k else index_from (k + 1) source ss

-- the same for the source of a member
abbrev pub step_index : List given.SourceStep → Member → Option ℕ
step_index steps (Member.Literal units) = None
step_index steps (Member.Tracked source bounds mode) = index_from 0 source steps

-- the range from one place to another, if it has a unit
abbrev pub range_between : ℕ → ℕ → Option Held
range_between start end = if nat_lt start end then Some (record { start = start; end = end }) else None

-- the same as a span
abbrev pub held_span : Held → Span
held_span h = span_between h.start h.end

-- the least range that has both
abbrev pub joined : Option Held → Option Held → Option Held
joined None b = b
joined (Some a) None = Some a
joined (Some a) (Some b) = Some (record { start = min a.start b.start; end = max a.end b.end })

-- the places of a run in a text of n units
abbrev pub run_range : ℕ → TrailRun → Option Held
run_range n run = range_between run.span.start (min (end_of run.span) n)

-- whether the run is owned by the member of the carrier
abbrev pub is_owner : ℕ → ℕ → TrailRun → Bool
is_owner carrier i run = ends_with carrier (nat_eq i) run.trail

-- the member of the carrier that a pair names, and the one through which units of a trail came last
abbrev pub member_named : ℕ → ℕ × ℕ → Option ℕ
member_named carrier pair = if nat_eq pair.0 carrier then Some pair.1 else None

abbrev pub owner_in : ℕ → List (ℕ × ℕ) → Option ℕ
owner_in carrier trail = option_and_then (member_named carrier) (last_pair trail)

-- a range with one run more, where the member owns that
abbrev pub with_run : ℕ → ℕ → ℕ → Option Held → TrailRun → Option Held
with_run carrier n i held run = if is_owner carrier i run then joined held (run_range n run) else held

-- a range with all of these runs that the member of the carrier owns
abbrev pub with_runs : ℕ → ℕ → ℕ → Option Held → List TrailRun → Option Held
with_runs carrier n i held [] = held
with_runs carrier n i held (run ∷ runs) = with_runs carrier n i (with_run carrier n i held run) runs

-- a step whose runs rise and whose changes are in normal form
pub record IsSound (s : given.SourceStep) : Type 0 where
  pub rising : AreRising 0 s.trails
  pub normal : AreNormalFrom 0 s.changes.old_len s.changes.changes

-- whether a member's step has this index
abbrev pub is_step : ℕ → Option (Option ℕ) → Bool
is_step k (Some (Some u)) = nat_eq u k
is_step k _ = false

-- a member's range with the runs of one step, where that is the step of its source
abbrev pub with_step : ℕ → ℕ → Option (Option ℕ) → ℕ → Option Held → given.SourceStep → Option Held
with_step carrier k at i held s = if is_step k at then with_runs carrier (step s.changes).new_len i held s.trails else held

-- and with those of steps from index k on
abbrev pub with_steps : ℕ → ℕ → Option (Option ℕ) → ℕ → Option Held → List given.SourceStep → Option Held
with_steps carrier k at i held [] = held
with_steps carrier k at i held (s ∷ ss) = with_steps carrier (k + 1) at i (with_step carrier k at i held s) ss

-- from where the start of a span goes to where its end goes, if there is a unit between
abbrev pub kept_range : Step → Span → Option Held
kept_range s x = range_between (positive_edge s x.start) (negative_edge s (end_of x))

-- the same for the bounds of a member across the step of its source
abbrev pub kept_of : (ℕ → Option SourceStep) → Member → Option Held
kept_of steps (Member.Literal units) = None
kept_of steps (Member.Tracked source bounds mode) = option_and_then (λ s. kept_range s.step bounds) (steps source)

-- the new bounds of a member of a source that stepped, by what it holds and the new start of the next that holds something
abbrev pub bounds_with : Step → SpanMode → Span → Option Held → Option ℕ → Span
bounds_with s mode bounds held next =
    if is_inclusive mode then span_between 0 s.new_len
    else unwrap_or (option_map held_span held) (span_between (option_map_or (min (positive_edge s bounds.start)) next (positive_edge s bounds.start)) (option_map_or (min (positive_edge s bounds.start)) next (positive_edge s bounds.start)))

-- the same of a member
abbrev pub moved_by : (ℕ → Option SourceStep) → Option Held → Option ℕ → Member → Member
moved_by steps held next (Member.Literal units) = Member.Literal units
moved_by steps held next (Member.Tracked source bounds mode) = Member.Tracked source (option_map_or (λ s. bounds_with s.step mode bounds held next) (steps source) bounds) mode

-- What each member holds whose source stepped.
pub record AreHeld (carrier : ℕ) (steps : ℕ → Option SourceStep) (members : List Member) (held : List (Option Held)) : Type 0 where
  pub long : length held ≡ length members
  pub each : (i source : ℕ) (bounds : Span) (mode : SpanMode) (s : SourceStep) → slice_get members i ≡ Some (Member.Tracked source bounds mode) → steps source ≡ Some s
      → option_map held_span (slice_index_or held i None) ≡ held_range carrier s (record { index = i; bounds = bounds })
