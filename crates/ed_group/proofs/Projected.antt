-- A stock with a new projection.
use Rattle.std.proofs.Common.{◌≡◌, ℕ, ◌+◌, ◌<◌, List, [], ◌∷◌, ◌++◌, length, map, Option, None, refl, sym, ◌∙◌, ap, subst}
use Rattle.std.specs.Prelude.{All, Ok, Err, unwrap_or, count_by}
use Rattle.std.specs.List.{AllByRecursion as Each}
use Rattle.std.proofs.lemmas.List.{length-map}
use Rattle.ed_base.specs.declared.Member.{Member}
use Rattle.ed_base.specs.declared.Refusal.{Refusal}
use Rattle.ed_base.specs.ChangeList.{ChangeList}
use Rattle.ed_base.specs.Numbers.{first_some, or_else}
use Rattle.ed_graph.specs.Standing.{IsLevelled, linked}
use Rattle.ed_layers.specs.Order.{mode_fault, overlap_fault}
use Rattle.ed_layers.specs.Records.{is_tracked, members_len}
use Rattle.ed_members.specs.Faults.{first_fault, len_in}
use Rattle.ed_project.specs.Records.{Projection, record_of, shown}
use Rattle.ed_project.specs.declared.shown.Shown.{Shown}
use Rattle.ed_project.specs.Texts.{HasSource, no_steps, text_in, text_over, versions_of}
use Rattle.ed_stock.specs.Limits.{stock_limits}
use Rattle.ed_stock.specs.Linking.{depth}
use Rattle.ed_stock.specs.Making.{projection_of, sources_in}
use Rattle.ed_stock.specs.Stock.{count, now, record_at}
use Rattle.ed_stock.specs.Versions.{at_now}
use Rattle.ed_version.specs.declared.Snapshot.{Snapshot}
use Rattle.ed_group.specs.Answers.{LiesIn, len_now, projection_fault, with_projection}
use Rattle.ed_climb.specs.Refusals.{Refuses}
use Rattle.ed_climb.specs.declared.counts.Counts.{Counts}
use Rattle.ed_climb.specs.declared.fault.PlanFault.{PlanFault}
use Rattle.ed_held.specs.declared.held.Held.{Held}
use Rattle.ed_climb.specs.Kept.{IsKept}
use Rattle.ed_climb.specs.Limited.{new_limit}
use Rattle.ed_held.specs.Moves.{snapshot_now}
use Rattle.ed_group.specs.Placed.{too_deep}
use Rattle.ed_risen.specs.Rising.{EndsIn, Inside}
use Rattle.ed_held.specs.Seen.{Known, known, stock}
use Rattle.ed_climb.proofs.KeptNumbers.{count_len}
use Rattle.ed_risen.proofs.Settled.{all_of}
use Rattle.ed_risen.proofs.FoundedLemmas.{each_weaker}
use Rattle.ed_risen.proofs.Sources.{Agree, IsListed, OfSource, all_listed, each_source, named_among, same_mode_fault}
use Rattle.ed_risen.proofs.Lists.{each_both, or_else_assoc, or_else_none, each_of}
use Rattle.ed_risen.proofs.Texts.{named_text}
use Rattle.ed_climb.proofs.Snapshots.{snap_there, snaps, snaps_text, snaps_versions}
use Rattle.ed_group.proofs.NewCarrier.{carrier_new, carrier_put, depth_is, held_limits, held_stock}
use Rattle.ed_group.proofs.Current.{current}
use Rattle.ed_group.proofs.Refusing.{both_none, refused_none, refuses_first}

-- ---- what is asked and answered, of buffers that are held

module _ (hs : List Held) (graph : List (List ℕ)) (counts : Counts) (kept : IsKept (map known hs) graph counts) (ms : List Member) (inside : All (LiesIn (stock hs)) ms) where
  abbrev lies : Each (LiesIn (stock hs)) ms
  lies = each_of (LiesIn (stock hs)) ms inside

  abbrev pub sources_held : List ℕ
  sources_held = sources_in [] ms

  abbrev pub named_held : List (ℕ × ℕ)
  named_held = map (λ b. (b, now (stock hs) b)) (sources_in [] ms)

  abbrev pub linked_held : List (List ℕ)
  linked_held = linked (graph ++ [] ∷ []) (length graph) (sources_in [] ms)

  lies_of : (m : Member) → LiesIn (stock hs) m → OfSource (λ b. b < length (map known hs)) m
  lies_of (Member.Literal u) h = tt
  lies_of (Member.Tracked source bounds mode) h = subst (λ k. source < k) (count_len (map known hs) graph counts kept) h.0

  there_all : Each (λ b. b < length (map known hs)) sources_held
  there_all = each_source (λ b. b < length (map known hs)) [] ms (each_weaker (LiesIn (stock hs)) (OfSource (λ b. b < length (map known hs))) lies_of ms lies)

  ends_by : (m : Member) → IsListed sources_held m → LiesIn (stock hs) m → EndsIn (stock hs) named_held m
  ends_by (Member.Literal u) l h = tt
  ends_by (Member.Tracked source bounds mode) l h = (named_among (now (stock hs)) sources_held source l, h.1)

  ends_all : Each (EndsIn (stock hs) named_held) ms
  ends_all = each_both (IsListed sources_held) (LiesIn (stock hs)) (EndsIn (stock hs) named_held) ends_by ms (all_listed ms) lies

  pub sources_within : (xs : List ℕ) (n : ℕ) → xs ≡ sources_held → n ≡ length hs → All (λ b. b < n) xs
  sources_within xs n is n_is = subst (All (λ b. b < n)) (sym is) (subst (λ k. All (λ b. b < k) sources_held) (length-map hs known ∙ sym n_is) (all_of (λ b. b < length (map known hs)) sources_held there_all))

  pub depth_held : depth (stock hs) (count (stock hs) + 1) (count (stock hs)) sources_held ≡ too_deep linked_held
  depth_held = depth_is (map known hs) graph counts kept sources_held there_all

  snaps_of : (xs : List ℕ) → Each (λ b. b < length (map known hs)) xs → map (snapshot_now hs) xs ≡ snaps (stock hs) (map (λ b. (b, now (stock hs) b)) xs)
  snaps_of [] h = refl
  snaps_of (x ∷ xs) h = rw (current hs graph counts kept x (subst (λ k. x < k) (sym (count_len (map known hs) graph counts kept)) h.0), snaps_of xs h.1) refl

  pub snaps_held : (xs : List ℕ) (ss : List Snapshot) → xs ≡ sources_held → ss ≡ map (snapshot_now hs) xs → ss ≡ snaps (stock hs) named_held
  snaps_held xs ss is ss_is = ss_is ∙ ap (map (snapshot_now hs)) is ∙ snaps_of sources_held there_all

  pub have_all : (ss : List Snapshot) → ss ≡ snaps (stock hs) named_held → All (HasSource no_steps ss) ms
  have_all ss is = subst (λ xs. All (HasSource no_steps xs) ms) (sym is) (all_of (HasSource no_steps (snaps (stock hs) named_held)) ms (each_weaker (EndsIn (stock hs) named_held) (HasSource no_steps (snaps (stock hs) named_held)) has ms ends_all))
    where
      has : (m : Member) → EndsIn (stock hs) named_held m → HasSource no_steps (snaps (stock hs) named_held) m
      has (Member.Literal u) h = tt
      has (Member.Tracked source bounds mode) h = rw (snap_there (stock hs) named_held source (now (stock hs) source) h.0) h.1

  lengths_of : (xs : List ℕ) → map {B = ℕ × ℕ} (λ (x : Snapshot). (x.buffer, length x.text)) (snaps (stock hs) (map (λ b. (b, now (stock hs) b)) xs)) ≡ map {B = ℕ × ℕ} (λ b. (b, len_now (stock hs) b)) xs
  lengths_of [] = refl
  lengths_of (x ∷ xs) = ap (λ rest. (x, len_now (stock hs) x) ∷ rest) (lengths_of xs)

  at_now_named : (xs : List ℕ) → at_now (stock hs) (map (λ b. (b, now (stock hs) b)) xs) ≡ map (λ b. (b, now (stock hs) b)) xs
  at_now_named [] = refl
  at_now_named (x ∷ xs) = ap (λ rest. (x, now (stock hs) x) ∷ rest) (at_now_named xs)

  -- the snapshots have the texts of the versions that are named
  texts_held : text_in (snaps (stock hs) named_held) ≡ named_text (record_at (stock hs)) named_held
  texts_held = snaps_text (stock hs) named_held ∙ ap (named_text (record_at (stock hs))) (at_now_named sources_held)

  shown_is : (resolver : Option (List ℕ)) (p : Projection) → p.buffer ≡ length hs → p.versions ≡ shown ms named_held (text_over (text_in (snaps (stock hs) named_held)) ms) ∷ [] → p.changes ≡ [] → p.resolver ≡ resolver → known (Held.Projection p 0) ≡ carrier_new (map known hs) (projection_of (stock hs) ms) resolver
  shown_is resolver p number_is versions_are changes_are resolver_is =
      whole p.buffer (length (map known hs)) p.versions (shown ms named_held (text_over (named_text (record_at (stock hs)) named_held) ms) ∷ []) p.changes [] p.resolver resolver (number_is ∙ sym (length-map hs known)) (versions_are ∙ ap (λ f. shown ms named_held (text_over f ms) ∷ []) texts_held) changes_are resolver_is
    where
      whole : (a b : ℕ) (v w : List Shown) (c d : List ChangeList) (x y : Option (List ℕ)) → a ≡ b → v ≡ w → c ≡ d → x ≡ y →
          ◌≡◌ {A = Known} (record { number = a; buffer = record { records = map record_of v; changes = c; resolver = x; regions = []; regions_given = 0; turns = 0 }; texts = map (λ z. z.text) v })
          (record { number = b; buffer = record { records = map record_of w; changes = d; resolver = y; regions = []; regions_given = 0; turns = 0 }; texts = map (λ z. z.text) w })
      whole a b v w c d x y e f g h = rw (e, f, g, h) refl

  module _ (ss : List Snapshot) (ss_is : ss ≡ snaps (stock hs) named_held) (ls : List (ℕ × ℕ)) (ls_is : ls ≡ map {B = ℕ × ℕ} (λ (x : Snapshot). (x.buffer, length x.text)) ss) where
    pub agrees : (m : Member) → IsListed sources_held m → Agree (len_now (stock hs)) (len_in ls) m
    agrees (Member.Literal u) h = tt
    agrees (Member.Tracked source bounds mode) h =
        sym (ap (λ xs. len_in xs source) (ls_is ∙ ap (map {B = ℕ × ℕ} (λ (x : Snapshot). (x.buffer, length x.text))) ss_is ∙ lengths_of sources_held) ∙ ap (λ o. unwrap_or o 0) (named_among (len_now (stock hs)) sources_held source h))

    same_modes : mode_fault (len_now (stock hs)) ms ≡ mode_fault (len_in ls) ms
    same_modes = same_mode_fault (len_now (stock hs)) (len_in ls) ms (each_weaker (IsListed sources_held) (Agree (len_now (stock hs)) (len_in ls)) agrees ms (all_listed ms))

    -- members that may stand together, over their sources as they are
    stand : (X : Type 0) (x : X) → Refuses (first_fault (len_in ls) ms) (Ok x) → Inside (stock hs) (projection_of (stock hs) ms)
    stand X x apart =
        let none : (mode_fault (len_in ls) ms ≡ None) × (overlap_fault ms ≡ None) = both_none (mode_fault (len_in ls) ms) (overlap_fault ms) (refused_none X (first_fault (len_in ls) ms) x apart) in
        record { ends = ends_all; apart = none.1; cover = same_modes ∙ none.0 }

    fault_parts : projection_fault (stock hs) ms ≡ or_else (first_fault (len_in ls) ms) (or_else (too_deep linked_held) (first_some (stock_limits (with_projection (stock hs) ms None))))
    fault_parts =
        whole (mode_fault (len_now (stock hs)) ms) (mode_fault (len_in ls) ms) (overlap_fault ms) (depth (stock hs) (count (stock hs) + 1) (count (stock hs)) sources_held) (too_deep linked_held) (first_some (stock_limits (with_projection (stock hs) ms None)))
        same_modes depth_held
      where
        whole : (a a' b d d' l : Option Refusal) → a ≡ a' → d ≡ d' → first_some (a ∷ b ∷ d ∷ l ∷ []) ≡ or_else (or_else a' b) (or_else d' l)
        whole a a' b d d' l e f = rw (e, f) (sym (or_else_assoc a' b (or_else d' l) ∙ ap (λ x. or_else a' (or_else b (or_else d' x))) (sym (or_else_none l))))

    opened_is : (resolver : Option (List ℕ)) (p : Projection) → p.buffer ≡ length hs → p.versions ≡ shown ms (versions_of ss) (text_over (text_in ss) ms) ∷ [] → p.changes ≡ [] → p.resolver ≡ resolver → known (Held.Projection p 0) ≡ carrier_new (map known hs) (projection_of (stock hs) ms) resolver
    opened_is resolver p number_is versions_are changes_are resolver_is =
        shown_is resolver p number_is
        (versions_are ∙ ap (λ xs. shown ms (versions_of xs) (text_over (text_in xs) ms) ∷ []) ss_is ∙ ap (λ vs. shown ms vs (text_over (text_in (snaps (stock hs) named_held)) ms) ∷ []) (snaps_versions (stock hs) named_held ∙ at_now_named sources_held))
        changes_are resolver_is

    pub projection_stock : (resolver : Option (List ℕ)) (p : Projection) → p.buffer ≡ length hs → p.versions ≡ shown ms (versions_of ss) (text_over (text_in ss) ms) ∷ [] → p.changes ≡ [] → p.resolver ≡ resolver → (hs' : List Held) → hs' ≡ hs ++ Held.Projection p 0 ∷ [] → stock hs' ≡ with_projection (stock hs) ms resolver
    projection_stock resolver p number_is versions_are changes_are resolver_is hs' is =
        held_stock hs (projection_of (stock hs) ms) resolver (Held.Projection p 0) (opened_is resolver p number_is versions_are changes_are resolver_is) hs' is

    pub fault_first : (X Y : Type 0) (e : PlanFault) → Refuses {X = X} (first_fault (len_in ls) ms) (Err e) → Refuses {X = Y} (projection_fault (stock hs) ms) (Err e)
    fault_first X Y e h = subst (λ o. Refuses {X = Y} o (Err e)) (sym fault_parts) (refuses_first X Y (first_fault (len_in ls) ms) (or_else (too_deep linked_held) (first_some (stock_limits (with_projection (stock hs) ms None)))) e h)

    module _ (X : Type 0) (x : X) (apart : Refuses (first_fault (len_in ls) ms) (Ok x)) where
      rest_is : projection_fault (stock hs) ms ≡ or_else (too_deep linked_held) (first_some (stock_limits (with_projection (stock hs) ms None)))
      rest_is = fault_parts ∙ ap (λ o. or_else o (or_else (too_deep linked_held) (first_some (stock_limits (with_projection (stock hs) ms None))))) (refused_none X (first_fault (len_in ls) ms) x apart)

      pub fault_second : (Z Y : Type 0) (e : PlanFault) → Refuses {X = Z} (too_deep linked_held) (Err e) → Refuses {X = Y} (projection_fault (stock hs) ms) (Err e)
      fault_second Z Y e h = subst (λ o. Refuses {X = Y} o (Err e)) (sym rest_is) (refuses_first Z Y (too_deep linked_held) (first_some (stock_limits (with_projection (stock hs) ms None))) e h)

      module _ (Z : Type 0) (z : Z) (shallow_enough : Refuses (too_deep linked_held) (Ok z)) (g : List (List ℕ)) (g_is : g ≡ linked_held) (levelled : IsLevelled g) (m : ℕ) (m_is : m ≡ length hs)
          (follow : ℕ) (follow_is : follow ≡ count_by is_tracked ms) (cs : Counts) (cs_is : cs ≡ record { inserted = counts.inserted + 0; versions = counts.versions + 1; placements = counts.placements + follow }) where
        pub fault_third : (o : Option Refusal) → o ≡ new_limit (m + 1) (members_len ms) cs (length ms) → projection_fault (stock hs) ms ≡ o
        fault_third o is =
            rest_is ∙ ap (λ p. or_else p (first_some (stock_limits (with_projection (stock hs) ms None)))) (refused_none Z (too_deep linked_held) z shallow_enough)
            ∙ held_limits hs graph counts kept sources_held there_all g g_is levelled (projection_of (stock hs) ms) refl refl (stand X x apart) m m_is follow follow_is cs cs_is None ∙ sym is

        pub projection_put : new_limit (m + 1) (members_len ms) cs (length ms) ≡ None → (resolver : Option (List ℕ)) (p : Projection) → p.buffer ≡ length hs → p.versions ≡ shown ms (versions_of ss) (text_over (text_in ss) ms) ∷ [] → p.changes ≡ [] → p.resolver ≡ resolver → IsKept (map known hs ++ known (Held.Projection p 0) ∷ []) g cs
        projection_put none resolver p number_is versions_are changes_are resolver_is =
            carrier_put hs graph counts kept sources_held there_all g g_is levelled (projection_of (stock hs) ms) refl refl (stand X x apart) m m_is follow follow_is cs cs_is resolver (Held.Projection p 0) (opened_is resolver p number_is versions_are changes_are resolver_is) none
