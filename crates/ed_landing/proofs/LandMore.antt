-- One more base on which pieces land, after those with lower numbers.
use Rattle.std.proofs.Common.{◌≡◌, ◌≢◌, ℕ, ◌+◌, ◌-◌, ◌<◌, ◌≤◌, ◌^◌, true, false, List, [], ◌∷◌, ◌++◌, length, map, Option, Some, None, refl, sym, ap, ◌∙◌, subst, inl, inr, arith}
use Rattle.std.specs.Prelude.{option_map, slice_get, slice_set, unwrap_or, MatchOption}
use Rattle.std.specs.List.{AllByRecursion as Each}
use Rattle.std.proofs.lemmas.Bool.{cases_eq}
use Rattle.std.proofs.lemmas.List.{length-map, map-append}
use Rattle.ed_base.specs.declared.Piece.{Piece}
use Rattle.ed_base.specs.ChangeList.{change_list, new_len, step}
use Rattle.ed_buffer.specs.Planning as buffers
use Rattle.ed_buffer.specs.Planning.{Base, NextVersion, changes_left, text_left}
use Rattle.ed_layers.specs.Pieces.{marked_text, step_of_pieces}
use Rattle.ed_layers.specs.Records.{Record, base}
use Rattle.ed_pieces.specs.Trails.{trails_in}
use Rattle.ed_version.specs.Chain as chain
use Rattle.ed_version.specs.declared.Version.{Version}
use Rattle.ed_stock.specs.Landing.{base_changes, landed_at, pieces_at}
use Rattle.ed_stock.specs.Stock.{Stock, Buffer, buffer, count, now, record_at, text_at, text_now}
use Rattle.ed_stock.specs.Versions.{Rising, none_given, with_version}
use Rattle.ed_risen.specs.Growing.{Grows}
use Rattle.ed_risen.specs.Rising.{IsSettled, Rises}
use Rattle.ed_risen.proofs.Growth.{grown_last, grown_now, grown_now_other, grown_text_now, set_here, set_other, version_grows}
use Rattle.ed_risen.proofs.Lists.{each_push, fold_push, get_map}
use Rattle.ed_risen.proofs.Texts.{base_text}
use Rattle.ed_risen.proofs.RisingLemmas.{get_last, some_records}
use Rattle.ed_graph.specs.Standing.{height_in}
use Rattle.ed_sending.proofs.Groups.LandedBases.{AreLanded, landed_next, landed_not, next_landed, none_landed, not_landed, now_still, text_still}
use Rattle.ed_sending.proofs.Texts.PiecesAgain.{marked_length, step_again}
use Rattle.ed_held.specs.declared.held.Held.{Held}
use Rattle.ed_held.specs.declared.moves.Move.{Move}
use Rattle.ed_held.specs.declared.moves.Planned.{Planned}
use Rattle.ed_held.specs.Landing.{IsNextBy}
use Rattle.ed_held.specs.Moves.{CanMake, IsPlannedAt, move_seen, rising_of, with_move}
use Rattle.ed_held.specs.Seen.{base_record, known, seen, stock, stock_of}
use Rattle.ed_climb.specs.Route.{AreTrue, IsNewest}
use Rattle.ed_climb.proofs.Climb.{apart_push, rising_to, snapshot_by, stepped_by}
use Rattle.ed_climb.proofs.Snapshots.{held_buffer, newest_same}
use Rattle.ed_landing.specs.Bases.{move_by}
use Rattle.ed_landing.specs.Landings.{HaveLanded, StandOn, len_left}
use Rattle.ed_sending.specs.LandedBelow.{is_reached, landed_below}

-- ---- a base that is held

none_is_some : (v : Version) → None ≡ Some v → ⊥
none_is_some v h = absurd (cc)

last_text : (vs : List Version) → 0 < length vs → slice_get (map (λ v. v.text) vs) (length vs - 1) ≡ Some (chain.text_now vs)
last_text vs h = by (slice_get vs (length vs - 1)) refl (get_last vs h (record { text = []; reiterated = 0 }))
  where
    by : (o : Option Version) → slice_get vs (length vs - 1) ≡ o → slice_get vs (length vs - 1) ≡ Some (unwrap_or (slice_get vs (length vs - 1)) (record { text = []; reiterated = 0 })) → slice_get (map (λ v. v.text) vs) (length vs - 1) ≡ Some (chain.text_now vs)
    by None is f = absurd (none_is_some (unwrap_or (slice_get vs (length vs - 1)) (record { text = []; reiterated = 0 })) (sym is ∙ f))
    by (Some v) is f = get_map (λ v. v.text) vs (length vs - 1) v is ∙ ap (λ o. Some (unwrap_or (option_map (λ z. z.text) o) [])) (sym is)

module _ (hs : List Held) (true_ : AreTrue (map known hs)) (settled : IsSettled (stock hs)) (b : ℕ) (there : b < count (stock hs)) (x : Base) (held : slice_get hs b ≡ Some (Held.Base x)) where
  buffer_is : buffer (stock hs) b ≡ seen (Held.Base x)
  buffer_is = held_buffer hs b (Held.Base x) held

  pub versions_held : length (buffer (stock hs) b).records ≡ length x.chain.versions
  versions_held = ap (λ (y : Buffer). length y.records) buffer_is ∙ length-map x.chain.versions base_record

  pub text_held : chain.text_now x.chain.versions ≡ text_now (stock hs) b
  text_held =
      let some : 0 < length x.chain.versions = subst (λ n. 0 < n) versions_held (settled.some b there) in
      let kept : text_at (stock hs) b (length x.chain.versions - 1) ≡ chain.text_now x.chain.versions = true_.texts b (length x.chain.versions - 1) (known (Held.Base x)) (chain.text_now x.chain.versions) (get_map known hs b (Held.Base x) held) (last_text x.chain.versions some) in
      sym kept ∙ ap (λ n. text_at (stock hs) b (n - 1)) (sym versions_held)

  pub number_held : x.chain.buffer ≡ b
  number_held = true_.numbered b (known (Held.Base x)) (get_map known hs b (Held.Base x) held)

-- ---- the first ones

below_more : (k : ℕ) (ms : List Move) → Each (λ m. m.buffer < k) ms → Each (λ m. m.buffer < k + 1) ms
below_more k [] h = tt
below_more k (m ∷ ms) h = (let l : m.buffer < k = h.0 in omega (arith, l), below_more k ms h.1)

others_of : (k : ℕ) (ms : List Move) → Each (λ m. m.buffer < k) ms → Each (λ m. m.buffer ≢ k) ms
others_of k [] h = tt
others_of k (m ∷ ms) h = ((λ e. (let l : m.buffer < k = h.0 in absurd (omega (arith, l, e)))), others_of k ms h.1)

module _ (hs : List Held) (graph : List (List ℕ)) (on : StandOn hs graph) (pending : List (ℕ × Piece)) where
  abbrev s : Stock
  s = stock hs

  abbrev Are : ℕ → List ℕ → Type 0
  Are k done = AreLanded (stock hs) graph on.settled on.levelled on.as_long on.names pending k done

  are_landed : (k : ℕ) (hs' : List Held) (ms : List Move) (h : HaveLanded hs graph pending k hs' ms) → AreLanded (stock hs) graph on.settled on.levelled on.as_long on.names pending k h.done
  are_landed k hs' ms h = record { rises = h.rises; below = h.below; reached = h.reached }

  pub none_yet : HaveLanded hs graph pending 0 hs []
  none_yet =
      let none : AreLanded (stock hs) graph on.settled on.levelled on.as_long on.names pending 0 [] = none_landed (stock hs) graph on.settled on.levelled on.as_long on.names pending in
      record {
        done = [];
        rises = none.rises;
        below = none.below;
        reached = none.reached;
        landed = refl;
        planned = tt;
        apart = tt;
        those = tt;
        there = tt;
        newest = tt;
        short = λ c l is. absurd (omega arith);
      }

  -- ---- one that isn't reached

  pub passed_by : (k : ℕ) → is_reached (stock hs) pending k ≡ false → (hs' : List Held) (ms : List Move) → HaveLanded hs graph pending k hs' ms → HaveLanded hs graph pending (k + 1) hs' ms
  passed_by k out hs' ms h =
      let next : AreLanded (stock hs) graph on.settled on.levelled on.as_long on.names pending (k + 1) h.done = not_landed (stock hs) graph on.settled on.levelled on.as_long on.names pending k out h.done (are_landed k hs' ms h) in
      record {
        done = h.done;
        rises = next.rises;
        below = next.below;
        reached = next.reached;
        landed = h.landed ∙ sym (landed_not s pending k out);
        planned = h.planned;
        apart = h.apart;
        those = below_more k ms h.those;
        there = h.there;
        newest = h.newest;
        short = λ c l is. elim (cases_eq c k) [
          | inl e ↦ absurd (let f : is_reached s pending c ≡ false = ap (is_reached s pending) e ∙ out in let g : true ≡ false = sym is ∙ f in cc)
          | inr ne ↦ h.short c (omega (arith, ne)) is
        ];
      }

  -- ---- one that is

  module _ (k : ℕ) (there : k < count (stock hs)) (is : is_reached (stock hs) pending k ≡ true) (hs' : List Held) (ms : List Move) (same : map known hs' ≡ map known hs) (h : HaveLanded hs graph pending k hs' ms)
      (x y : Base) (held : slice_get hs' k ≡ Some (Held.Base x)) (hs'' : List Held) (set : hs'' ≡ slice_set hs' k (Held.Base y)) (unchanged : buffers.IsUnchanged x y)
      (st : NextVersion) (planned : buffers.IsPlanned y st) (by : IsNextBy x (pieces_at pending k) st) where
    abbrev ps : List Piece
    ps = pieces_at pending k

    abbrev m : Move
    m = move_by k st

    abbrev r : Rising
    r = rising_of (stock hs) ms

    abbrev t : Stock
    t = r.stock

    abbrev u : Stock
    u = with_move t m

    abbrev next : Record
    next = base st.snapshot.text st.reiterated

    same_stock : stock hs' ≡ stock hs
    same_stock = ap stock_of same

    text_is : chain.text_now x.chain.versions ≡ text_now s k
    text_is = text_held hs' (subst AreTrue (sym same) on.true) (subst IsSettled (sym same_stock) on.settled) k (subst (λ z. k < count z) (sym same_stock) there) x held ∙ ap (λ z. text_now z k) same_stock

    versions_are : length (buffer s k).records ≡ length x.chain.versions
    versions_are = ap (λ z. length (buffer z k).records) (sym same_stock) ∙ versions_held hs' (subst AreTrue (sym same) on.true) (subst IsSettled (sym same_stock) on.settled) k (subst (λ z. k < count z) (sym same_stock) there) x held

    some_here : 0 < length (buffer s k).records
    some_here = on.settled.some k there

    -- what the version is, by the definitions
    left_is : st.snapshot.text ≡ map (λ (z : ℕ × List (ℕ × ℕ)). z.0) (marked_text ps (text_now s k))
    left_is = by.text ∙ ap (text_left ps) text_is

    changes_are : st.changes ≡ change_list (step_of_pieces ps (length (text_now s k))) (map (λ (z : ℕ × List (ℕ × ℕ)). z.0) (marked_text ps (text_now s k)))
    changes_are = by.changes ∙ ap (changes_left ps) text_is

    own_is : st.reiterated ≡ now s k + 1
    own_is = by.own ∙ (let e : length (buffer s k).records ≡ length x.chain.versions = versions_are in omega (arith, e, some_here))

    step_is : step st.changes ≡ step_of_pieces ps (length (text_now s k))
    step_is = ap step changes_are ∙ step_again ps (length (text_now s k)) (map (λ (z : ℕ × List (ℕ × ℕ)). z.0) (marked_text ps (text_now s k))) (length-map (marked_text ps (text_now s k)) (λ (z : ℕ × List (ℕ × ℕ)). z.0) ∙ marked_length ps (text_now s k))

    len_is : new_len st.changes ≡ len_left s pending k
    len_is = planned.next.len ∙ ap length left_is ∙ length-map (marked_text ps (text_now s k)) (λ (z : ℕ × List (ℕ × ℕ)). z.0)

    trails_are : trails_in st.trails (new_len st.changes) ≡ map (λ (z : ℕ × List (ℕ × ℕ)). z.1) (marked_text ps (text_now s k))
    trails_are =
        ap (trails_in st.trails) (planned.next.len ∙ ap length by.text) ∙ by.trails ∙ ap (λ z. map (λ (w : ℕ × List (ℕ × ℕ)). w.1) (marked_text ps z)) text_is

    -- the same in the stock so far
    still_text : text_now t k ≡ text_now s k
    still_text = ap (λ (z : Rising). text_now z.stock k) h.landed ∙ text_still s graph on.settled on.levelled on.as_long on.names pending k k (omega (arith, there)) there (inr (omega arith))

    still_now : now t k ≡ now s k
    still_now = ap (λ (z : Rising). now z.stock k) h.landed ∙ now_still s pending k k (inr (omega arith))

    abbrev made : List ℕ → ℕ → Rising
    made text version = record {
      stock = with_version t k (base (map (λ z. z.0) (marked_text ps text)) (version + 1)) (change_list (step_of_pieces ps (length text)) (map (λ z. z.0) (marked_text ps text)));
      moves = r.moves ++ (k, record { step = step_of_pieces ps (length text); trails = map (λ z. z.1) (marked_text ps text) }) ∷ [];
    }

    landed_is : landed_at pending none_given r k ≡ made (text_now s k) (now s k)
    unfolding base_changes
    landed_is = ap (λ x. made x (now t k)) still_text ∙ ap (made (text_now s k)) still_now

    made_is : made (text_now s k) (now s k) ≡ rising_to u (r.moves ++ move_seen m ∷ [])
    made_is =
        ap (λ z. rising_to (with_version t k (base z (now s k + 1)) (change_list (step_of_pieces ps (length (text_now s k))) (map (λ w. w.0) (marked_text ps (text_now s k))))) (r.moves ++ (k, record { step = step_of_pieces ps (length (text_now s k)); trails = map (λ w. w.1) (marked_text ps (text_now s k)) }) ∷ [])) (sym left_is)
        ∙ ap (λ z. rising_to (with_version t k (base st.snapshot.text z) (change_list (step_of_pieces ps (length (text_now s k))) (map (λ w. w.0) (marked_text ps (text_now s k))))) (r.moves ++ (k, record { step = step_of_pieces ps (length (text_now s k)); trails = map (λ w. w.1) (marked_text ps (text_now s k)) }) ∷ [])) (sym own_is)
        ∙ ap (λ z. rising_to (with_version t k next z) (r.moves ++ (k, record { step = step_of_pieces ps (length (text_now s k)); trails = map (λ w. w.1) (marked_text ps (text_now s k)) }) ∷ [])) (sym changes_are)
        ∙ ap (λ z. rising_to u (r.moves ++ (k, stepped_by z (map (λ w. w.1) (marked_text ps (text_now s k)))) ∷ [])) (sym step_is)
        ∙ ap (λ z. rising_to u (r.moves ++ (k, stepped_by (step st.changes) z) ∷ [])) (sym trails_are)

    pushed : rising_of s (ms ++ m ∷ []) ≡ rising_to u (r.moves ++ move_seen m ∷ [])
    pushed = ap (λ z. rising_to z (map move_seen (ms ++ m ∷ []))) (fold_push with_move s ms m) ∙ ap (rising_to u) (map-append move_seen ms (m ∷ []))

    landed_then : rising_of s (ms ++ m ∷ []) ≡ landed_below s pending (k + 1)
    landed_then = pushed ∙ sym made_is ∙ sym landed_is ∙ ap (λ z. landed_at pending none_given z k) h.landed ∙ sym (landed_next s pending k is)

    -- ---- the moves so far

    rises_here : Rises s (height_in graph) [] h.done r
    rises_here = subst (Rises s (height_in graph) [] h.done) (sym h.landed) h.rises

    there_now : k < count t
    there_now = subst (λ n. k < n) (sym rises_here.same_count) there

    grows : Grows t u k next
    grows = version_grows t k next st.changes there_now

    others : Each (λ n. n.buffer ≢ k) ms
    others = others_of k ms h.those

    newest_still : (n : Move) → n.buffer ≢ k → n.buffer < count s → IsNewest t n → IsNewest u n
    newest_still n ne in_ was = was ∙ newest_same t u n.buffer (grown_now_other t u k next grows n.buffer ne)
        (grown_text_now t u k next grows rises_here.founded n.buffer ne (some_records s (height_in graph) on.settled [] h.done r rises_here n.buffer in_))

    newest_all : (ns : List Move) → Each (λ n. n.buffer ≢ k) ns → Each (λ n. n.buffer < count s) ns → Each (IsNewest t) ns → Each (IsNewest u) ns
    newest_all [] ne in_ was = tt
    newest_all (n ∷ ns) ne in_ was = (newest_still n ne.0 in_.0 was.0, newest_all ns ne.1 in_.1 was.1)

    planned_still : (n : Move) → n.buffer ≢ k → IsPlannedAt hs' n → IsPlannedAt hs'' n
    planned_still n ne was = subst (λ o. MatchOption o ⊥ (λ z. CanMake z n.planned)) (sym (ap (λ xs. slice_get xs n.buffer) set ∙ set_other hs' k n.buffer (Held.Base y) ne)) was

    planned_all : (ns : List Move) → Each (λ n. n.buffer ≢ k) ns → Each (IsPlannedAt hs') ns → Each (IsPlannedAt hs'') ns
    planned_all [] ne was = tt
    planned_all (n ∷ ns) ne was = (planned_still n ne.0 was.0, planned_all ns ne.1 was.1)

    inside : k < length hs'
    inside = subst (λ n. k < n) (ap length (sym same) ∙ length-map hs' known) (subst (λ n. k < n) (length-map (map known hs) (λ z. z.buffer)) there)

    planned_here : IsPlannedAt hs'' m
    planned_here = subst (λ o. MatchOption o ⊥ (λ z. CanMake z (Planned.Base st))) (sym (ap (λ xs. slice_get xs k) set ∙ set_here hs' k (Held.Base y) inside)) planned

    text_then : text_now u k ≡ st.snapshot.text
    text_then = base_text (record_at u) k (now u k) st.snapshot.text st.reiterated (ap (record_at u k) (grown_now t u k next grows) ∙ grown_last t u k next grows)

    newest_here : IsNewest u m
    newest_here =
        ap (λ z. snapshot_by z st.snapshot.version st.snapshot.text) (planned.next.buffer ∙ unchanged.chain.buffer ∙ number_is)
        ∙ ap (λ z. snapshot_by k z st.snapshot.text) (planned.next.version ∙ ap length unchanged.chain.versions ∙ sym versions_are ∙ version_now)
        ∙ ap (snapshot_by k (now u k)) (sym text_then)
      where
        number_is : x.chain.buffer ≡ k
        number_is = number_held hs' (subst AreTrue (sym same) on.true) (subst IsSettled (sym same_stock) on.settled) k (subst (λ z. k < count z) (sym same_stock) there) x held

        version_now : length (buffer s k).records ≡ now u k
        version_now =
            let a : now u k ≡ length (buffer t k).records = grown_now t u k next grows in
            let b : now t k ≡ now s k = still_now in
            let c : 0 < length (buffer t k).records = some_records s (height_in graph) on.settled [] h.done r rises_here k there in
            omega (arith, a, b, c, some_here)

    pub lands_too : HaveLanded hs graph pending (k + 1) hs'' (ms ++ m ∷ [])
    lands_too =
        let on_next : AreLanded (stock hs) graph on.settled on.levelled on.as_long on.names pending (k + 1) (k ∷ h.done) = next_landed (stock hs) graph on.settled on.levelled on.as_long on.names pending k there is h.done (are_landed k hs' ms h) in
        record {
          done = k ∷ h.done;
          rises = on_next.rises;
          below = on_next.below;
          reached = on_next.reached;
          landed = landed_then;
          planned = each_push (IsPlannedAt hs'') ms m (planned_all ms others h.planned) planned_here;
          apart = apart_push ms m h.apart others;
          those = each_push (λ n. n.buffer < k + 1) ms m (below_more k ms h.those) (omega arith);
          there = each_push (λ n. n.buffer < count s) ms m h.there there;
          newest = subst (λ z. Each (IsNewest z.stock) (ms ++ m ∷ [])) (sym pushed) (each_push (IsNewest u) ms m (newest_all ms others h.there h.newest) newest_here);
          short = λ c l reached. elim (cases_eq c k) [
            | inl e ↦ subst (λ z. len_left s pending z ≤ 2 ^ 22) (sym e) (subst (λ n. n ≤ 2 ^ 22) len_is planned.next.fits)
            | inr ne ↦ h.short c (omega (arith, ne)) reached
          ];
        }
