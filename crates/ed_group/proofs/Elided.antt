-- A stock with a new elision buffer.
use Rattle.std.proofs.Common.{◌≡◌, ℕ, ◌+◌, ◌<◌, List, [], ◌∷◌, ◌++◌, length, map, Option, Some, None, refl, sym, ap, ◌∙◌, subst, arith}
use Rattle.std.specs.Prelude.{All, Ok, Err, cond, count_by}
use Rattle.std.specs.Option.{option_map_or}
use Rattle.std.proofs.lemmas.Bool.{eq-eqb}
use Rattle.std.proofs.lemmas.List.{length-map}
use Rattle.std.proofs.lemmas.List.FromFn.{length-map-range_with_len}
use Rattle.std.proofs.lemmas.List.Sums.{sum_by-cons}
use Rattle.ed_base.specs.declared.Member.{Member}
use Rattle.ed_base.specs.declared.Refusal.{Refusal}
use Rattle.ed_base.specs.ChangeList.{ChangeList}
use Rattle.ed_base.specs.Numbers.{first_some, or_else}
use Rattle.ed_base.specs.Runs.{runs}
use Rattle.ed_base.specs.declared.Span.{Span}
use Rattle.ed_climb.specs.Kept.{IsKept}
use Rattle.ed_climb.specs.Limited.{new_limit}
use Rattle.ed_climb.specs.Refusals.{Refuses}
use Rattle.ed_climb.specs.Route.{newest}
use Rattle.ed_climb.specs.declared.counts.Counts.{Counts}
use Rattle.ed_climb.specs.declared.fault.PlanFault.{PlanFault}
use Rattle.ed_climb.proofs.KeptNumbers.{count_len, held_count}
use Rattle.ed_elide.specs.Records.{Elision, now as version_now, record_of, shown_of, version_at}
use Rattle.ed_elide.specs.declared.version.ElisionVersion.{ElisionVersion}
use Rattle.ed_graph.specs.Standing.{IsLevelled, linked}
use Rattle.ed_group.specs.Answers.{elision_fault, len_now, with_elision}
use Rattle.ed_group.specs.Hiding.{IsOpened}
use Rattle.ed_group.specs.Placed.{too_deep}
use Rattle.ed_group.proofs.NewCarrier.{carrier_new, carrier_put, depth_is, held_limits, held_stock}
use Rattle.ed_group.proofs.Current.{current}
use Rattle.ed_group.proofs.Refusing.{refused_none, refuses_first}
use Rattle.ed_held.proofs.ElisionLemmas.{text_runs}
use Rattle.ed_held.specs.Moves.{snapshot_now}
use Rattle.ed_held.specs.Seen.{Known, known, stock}
use Rattle.ed_held.specs.declared.held.Held.{Held}
use Rattle.ed_layers.specs.Hidden.{hidden_by, in_some}
use Rattle.ed_layers.specs.Records.{Record, is_shown, is_tracked, members_len, members_of, sources_of, tracked, version_in}
use Rattle.ed_layers.specs.Texts.{text_over}
use Rattle.ed_risen.specs.Counting.{tracked_in}
use Rattle.ed_risen.specs.Rising.{Inside}
use Rattle.ed_risen.proofs.Lists.{or_else_none}
use Rattle.ed_risen.proofs.Settled.{all_of}
use Rattle.ed_risen.proofs.Texts.{named_text}
use Rattle.ed_spans.specs.SpanSets.{EndsWithin}
use Rattle.ed_stock.specs.Limits.{stock_limits}
use Rattle.ed_stock.specs.Linking.{depth}
use Rattle.ed_stock.specs.Making.{elision_of}
use Rattle.ed_stock.specs.Stock.{count, now, record_at, text_at, text_now}
use Rattle.ed_version.specs.declared.Snapshot.{Snapshot}

pub hidden_len : (n : ℕ) (hide : List Span) → length (hidden_by n hide) ≡ n
hidden_len n hide = length-map-range_with_len (in_some hide) 0 n

-- runs are tracked, each of them
all_tracked : (source : ℕ) (xs : List Span) → count_by is_tracked (map (tracked source) xs) ≡ length (map (tracked source) xs)
all_tracked source [] = refl
all_tracked source (x ∷ xs) =
    let rest : count_by is_tracked (map (tracked source) xs) ≡ length (map (tracked source) xs) = all_tracked source xs in
    let one : count_by is_tracked (map (tracked source) (x ∷ xs)) ≡ 1 + count_by is_tracked (map (tracked source) xs) = sum_by-cons (λ (m : Member). cond (is_tracked m) 1 0) (tracked source x) (map (tracked source) xs) in
    omega arith

module _ (hs : List Held) (graph : List (List ℕ)) (counts : Counts) (kept : IsKept (map known hs) graph counts) (source : ℕ) (there : source < count (stock hs)) (hide : List Span) where
  abbrev r : Record
  r = elision_of (stock hs) source hide

  known_there : source < length (map known hs)
  known_there = subst (λ n. source < n) (count_len (map known hs) graph counts kept) there

  inside : Inside (stock hs) (elision_of (stock hs) source hide)
  inside = (refl, hidden_len (length (text_now (stock hs) source)) hide)

  -- ---- the source as it is

  pub source_linked : All (λ b. b < length graph) (source ∷ [])
  source_linked = all_of (λ b. b < length graph) (source ∷ []) (let b : length graph ≡ count (stock hs) = held_count hs graph counts kept in omega (arith, there), tt)

  source_now : snapshot_now hs source ≡ newest (stock hs) source
  source_now = current hs graph counts kept source there

  pub hide_within : All (EndsWithin (len_now (stock hs) source)) hide → All (EndsWithin (length (snapshot_now hs source).text)) hide
  hide_within h = subst (λ (z : Snapshot). All (EndsWithin (length z.text)) hide) (sym source_now) h

  alone : version_in ((source, now (stock hs) source) ∷ []) source ≡ Some (now (stock hs) source)
  alone = rw (eq-eqb source source refl) refl

  named_here : named_text (record_at (stock hs)) (sources_of r) source ≡ text_now (stock hs) source
  named_here = ap (λ o. option_map_or (text_at (stock hs) source) o []) alone

  -- ---- refusals

  abbrev linked_new : List (List ℕ)
  linked_new = linked (graph ++ [] ∷ []) (length graph) (source ∷ [])

  abbrev limits_new : Option Refusal
  limits_new = first_some (stock_limits (with_elision (stock hs) source hide None))

  pub depth_held : depth (stock hs) (count (stock hs) + 1) (count (stock hs)) (source ∷ []) ≡ too_deep (linked (graph ++ [] ∷ []) (length graph) (source ∷ []))
  depth_held = depth_is (map known hs) graph counts kept (source ∷ []) (known_there, tt)

  fault_parts : elision_fault (stock hs) source hide ≡ or_else (too_deep linked_new) limits_new
  fault_parts =
      ap (λ d. first_some (d ∷ limits_new ∷ [])) depth_held
      ∙ ap (or_else (too_deep linked_new)) (or_else_none limits_new)

  pub fault_deep : (X Y : Type 0) (e : PlanFault) → Refuses {X = X} (too_deep (linked (graph ++ [] ∷ []) (length graph) (source ∷ []))) (Err e) → Refuses {X = Y} (elision_fault (stock hs) source hide) (Err e)
  fault_deep X Y e h = subst (λ o. Refuses {X = Y} o (Err e)) (sym fault_parts) (refuses_first X Y (too_deep linked_new) limits_new e h)

  -- ---- where it is only judged

  pub judged_deep : (X Y : Type 0) (e : PlanFault) → Refuses {X = X} (too_deep (linked (graph ++ [] ∷ []) (length graph) (source ∷ []))) (Err e) → Refuses {X = Y} (depth (stock hs) (count (stock hs) + 1) (count (stock hs)) (source ∷ [])) (Err e)
  judged_deep X Y e h = subst (λ o. Refuses {X = Y} o (Err e)) (or_else_none (too_deep linked_new) ∙ sym depth_held) (refuses_first X Y (too_deep linked_new) None e h)

  pub judged_fit : (X Y : Type 0) (x : X) (y : Y) → Refuses (too_deep (linked (graph ++ [] ∷ []) (length graph) (source ∷ []))) (Ok x) → Refuses (depth (stock hs) (count (stock hs) + 1) (count (stock hs)) (source ∷ [])) (Ok y)
  judged_fit X Y x y h = subst (λ o. Refuses o (Ok y)) (sym (depth_held ∙ refused_none X (too_deep linked_new) x h)) tt

  -- ---- the new buffer is the one of the definitions

  module _ (resolver : Option (List ℕ)) (e : Elision) (opened : IsOpened (length hs) (snapshot_now hs source) hide resolver e) where
    versions_are : e.versions ≡ shown_of (hidden_by (length (text_now (stock hs) source)) hide) source (now (stock hs) source) (text_now (stock hs) source) ∷ []
    versions_are = opened.versions ∙ ap (λ (z : Snapshot). shown_of (hidden_by (length z.text) hide) z.buffer z.version z.text ∷ []) source_now

    source_is : e.source ≡ source
    source_is = opened.source_is ∙ ap (λ (z : Snapshot). z.buffer) source_now

    pub members_are : (v : ℕ) (ms : List Member) → v ≡ version_now e.versions → ms ≡ (version_at e.versions v).members → ms ≡ members_of (elision_of (stock hs) source hide)
    members_are v ms v_is is = is ∙ ap (λ w. (version_at e.versions w).members) v_is ∙ ap (λ (vs : List ElisionVersion). (version_at vs (version_now vs)).members) versions_are

    pub tracked_are : (v : ℕ) (ms : List Member) → v ≡ version_now e.versions → ms ≡ (version_at e.versions v).members → length ms ≡ tracked_in (elision_of (stock hs) source hide)
    tracked_are v ms v_is is =
        ap length (members_are v ms v_is is)
        ∙ sym (all_tracked source (runs (is_shown (hidden_by (length (text_now (stock hs) source)) hide)) (length (hidden_by (length (text_now (stock hs) source)) hide))))

    text_is : text_over (λ b. text_now (stock hs) source) (members_of r) ≡ text_over (named_text (record_at (stock hs)) (sources_of r)) (members_of r)
    text_is = text_runs (λ b. text_now (stock hs) source) (named_text (record_at (stock hs)) (sources_of r)) source (runs (is_shown (hidden_by (length (text_now (stock hs) source)) hide)) (length (hidden_by (length (text_now (stock hs) source)) hide))) (sym named_here)

    known_is : known (Held.Elision e 0) ≡ carrier_new (map known hs) (elision_of (stock hs) source hide) resolver
    known_is =
        whole e.buffer (length (map known hs)) e.source source e.versions _ e.changes [] e.resolver resolver (opened.buffer ∙ sym (length-map hs known)) source_is versions_are opened.changes opened.resolver_is
        ∙ ap (known_by (length (map known hs)) r resolver) text_is
      where
        known_by : ℕ → Record → Option (List ℕ) → List ℕ → Known
        known_by n x y text = record { number = n; buffer = record { records = x ∷ []; changes = []; resolver = y; regions = []; regions_given = 0; turns = 0 }; texts = text ∷ [] }

        whole : (a b i j : ℕ) (v w : List ElisionVersion) (c d : List ChangeList) (x y : Option (List ℕ)) → a ≡ b → i ≡ j → v ≡ w → c ≡ d → x ≡ y →
            ◌≡◌ {A = Known} (record { number = a; buffer = record { records = map (record_of i) v; changes = c; resolver = x; regions = []; regions_given = 0; turns = 0 }; texts = map (λ z. z.text) v })
            (record { number = b; buffer = record { records = map (record_of j) w; changes = d; resolver = y; regions = []; regions_given = 0; turns = 0 }; texts = map (λ z. z.text) w })
        whole a b i j v w c d x y e f g h k = rw (e, f, g, h, k) refl

    pub elision_stock : (hs' : List Held) → hs' ≡ hs ++ Held.Elision e 0 ∷ [] → stock hs' ≡ with_elision (stock hs) source hide resolver
    elision_stock hs' is = held_stock hs (elision_of (stock hs) source hide) resolver (Held.Elision e 0) known_is hs' is

  module _ (g : List (List ℕ)) (g_is : g ≡ linked (graph ++ [] ∷ []) (length graph) (source ∷ [])) (levelled : IsLevelled g) (m : ℕ) (m_is : m ≡ length hs) (follow : ℕ) (follow_is : follow ≡ tracked_in (elision_of (stock hs) source hide))
      (cs : Counts) (cs_is : cs ≡ record { inserted = counts.inserted + 0; versions = counts.versions + 1; placements = counts.placements + follow }) where
    pub fault_limit : (X : Type 0) (x : X) → Refuses (too_deep (linked (graph ++ [] ∷ []) (length graph) (source ∷ []))) (Ok x) → (o : Option Refusal) → o ≡ new_limit (m + 1) (members_len (members_of (elision_of (stock hs) source hide))) cs (length (members_of (elision_of (stock hs) source hide))) → elision_fault (stock hs) source hide ≡ o
    fault_limit X x shallow_enough o is =
        fault_parts ∙ ap (λ p. or_else p limits_new) (refused_none X (too_deep linked_new) x shallow_enough)
        ∙ held_limits hs graph counts kept (source ∷ []) (known_there, tt) g g_is levelled (elision_of (stock hs) source hide) refl refl inside m m_is follow follow_is cs cs_is None ∙ sym is

    pub elision_put : (resolver : Option (List ℕ)) (e : Elision) → IsOpened (length hs) (snapshot_now hs source) hide resolver e → new_limit (m + 1) (members_len (members_of (elision_of (stock hs) source hide))) cs (length (members_of (elision_of (stock hs) source hide))) ≡ None → IsKept (map known hs ++ known (Held.Elision e 0) ∷ []) g cs
    elision_put resolver e opened none =
        carrier_put hs graph counts kept (source ∷ []) (known_there, tt) g g_is levelled (elision_of (stock hs) source hide) refl refl inside m m_is follow follow_is cs cs_is resolver (Held.Elision e 0) (known_is resolver e opened) none
