-- Units of a projection that stay, as kept pairs.
use Rattle.std.specs.Prelude.{◌≡◌, ℕ, zero, suc, ◌+◌, ◌-◌, ◌≤◌, ◌&&◌, List, [], ◌∷◌, ◌++◌, length, take, Option, MatchOption, if◌then◌else◌}
use Rattle.std.specs.Option.{option_map_or}
use Rattle.ed_base.specs.declared.edit.Change.{Change}
use Rattle.ed_base.specs.declared.edit.Span.{Span}
use Rattle.ed_base.specs.declared.piece.Member.{Member}
use Rattle.ed_base.specs.Spans.{end_of, holds_place}
use Rattle.ed_layers.specs.Records.{member_len, members_len}
use Rattle.ed_layers.specs.SourceStep.{SourceStep}
use Rattle.ed_kept.specs.Kept.{ArePairsRising, run_pairs}
use Rattle.ed_project.specs.declared.kept.Move.{Move}

-- where the run with this index ends in the old text
abbrev pub stop_at : ℕ → List Change → ℕ → ℕ
stop_at n [] k = n
stop_at n (c ∷ cs) zero = c.start
stop_at n (c ∷ cs) (suc k) = stop_at n cs k

-- the pairs of a source that the member showed and shows, at their places in the projection
abbrev pub shown_pairs : Move → List (ℕ × ℕ) → List (ℕ × ℕ)
shown_pairs m [] = []
shown_pairs m (pair ∷ pairs) =
    if holds_place m.old pair.0 && holds_place m.new pair.1 then (m.from + (pair.0 - m.old.start), m.to + (pair.1 - m.new.start)) ∷ shown_pairs m pairs
    else shown_pairs m pairs

-- the places of a member: those of a literal's units, or the bounds
abbrev pub bounds_of : Member → Span
bounds_of (Member.Literal units) = record { start = 0; len = length units }
bounds_of (Member.Tracked source bounds mode) = bounds

abbrev pub move : Span → Span → ℕ → ℕ → Move
move old new from to = record { old = old; new = new; from = from; to = to }

-- What a member may become: a literal stays, and a tracked one stays on its source, where it is if that didn't step, and else within the texts.
abbrev pub Becomes : (ℕ → Option SourceStep) → Member → Member → Type 0
Becomes steps (Member.Literal units) (Member.Literal units') = units ≡ units'
Becomes steps (Member.Literal units) (Member.Tracked source bounds mode) = ⊥
Becomes steps (Member.Tracked source bounds mode) (Member.Literal units) = ⊥
Becomes steps (Member.Tracked source bounds mode) (Member.Tracked source' bounds' mode') =
    (source ≡ source') × MatchOption (steps source') (bounds ≡ bounds') (λ s. (end_of bounds ≤ s.step.old_len) × (end_of bounds' ≤ s.step.new_len))

abbrev pub AllBecome : (ℕ → Option SourceStep) → List Member → List Member → Type 0
AllBecome steps [] [] = Unit {0}
AllBecome steps (m ∷ ms) (n ∷ ns) = Becomes steps m n × AllBecome steps ms ns
AllBecome steps [] (n ∷ ns) = ⊥
AllBecome steps (m ∷ ms) [] = ⊥

-- the kept pairs of a member that begins at these places of the old and of the new text, and of members from there on
abbrev pub member_pairs : (ℕ → Option SourceStep) → ℕ → ℕ → Member → Member → List (ℕ × ℕ)
member_pairs steps from to old (Member.Literal units) = run_pairs from to (length units)
member_pairs steps from to old (Member.Tracked source bounds mode) =
    option_map_or (λ s. shown_pairs (move (bounds_of old) bounds from to) s.step.kept) (steps source) (run_pairs from to bounds.len)

abbrev pub all_pairs : (ℕ → Option SourceStep) → ℕ → ℕ → List Member → List Member → List (ℕ × ℕ)
all_pairs steps from to [] new = []
all_pairs steps from to (m ∷ ms) [] = []
all_pairs steps from to (m ∷ ms) (n ∷ ns) = member_pairs steps from to m n ++ all_pairs steps (from + member_len m) (to + member_len n) ms ns

-- the pairs of the members before `first` and of the last `behind`, where those between them are replaced
abbrev pub pairs_around : List Member → List Member → ℕ → ℕ → List (ℕ × ℕ)
pairs_around old new first behind =
    run_pairs 0 0 (members_len (take first old))
    ++ run_pairs (members_len (take (length old - behind) old)) (members_len (take (length new - behind) new)) (members_len old - members_len (take (length old - behind) old))

-- what the step of a member's source keeps rises in both texts
abbrev pub Rises : (ℕ → Option SourceStep) → Member → Type 0
Rises steps (Member.Literal units) = Unit {0}
Rises steps (Member.Tracked source bounds mode) = MatchOption (steps source) (Unit {0}) (λ s. ArePairsRising 0 0 s.step.old_len s.step.new_len s.step.kept)
