-- The whole step of the commands that make buffers or versions, by why they are refused.
use Rattle.std.proofs.Common.{◌≡◌, ℕ, ◌+◌, true, false, List, [], ◌∷◌, ◌++◌, length, map, Option, Some, None, refl, sym, ◌∙◌, ap, append-nil}
use Rattle.std.specs.Prelude.{is_some, unwrap_or}
use Rattle.ed_base.specs.declared.edit.Change.{Change}
use Rattle.ed_base.specs.declared.edit.Replace.{Replace}
use Rattle.ed_base.specs.declared.piece.Member.{Member}
use Rattle.ed_base.specs.declared.piece.Piece.{Piece}
use Rattle.ed_base.specs.declared.refusal.Refusal.{Refusal}
use Rattle.ed_base.specs.declared.script.ScriptSpan.{ScriptSpan}
use Rattle.ed_base.specs.ChangeList.{ChangeList, normal_form}
use Rattle.ed_base.specs.Hooks.{HookTable}
use Rattle.ed_base.specs.Numbers.{first_some, or_else}
use Rattle.ed_layers.specs.Order.{mode_fault, overlap_fault}
use Rattle.ed_layers.specs.Pieces.{own_piece}
use Rattle.ed_layers.specs.Records.{base, members_of}
use Rattle.ed_stock.specs.Landing.{denial, down_fault, landed, pieces_of_changes, sent_down}
use Rattle.ed_stock.specs.Limits.{stock_limits}
use Rattle.ed_stock.specs.Linking.{cycle, depth}
use Rattle.ed_stock.specs.Making.{projection_of, sources_in, spans_replaced, spans_set, with_new}
use Rattle.ed_stock.specs.Versions.{Rising, none_given}
use Rattle.ed_group.specs.Edits.{pieces_of_edits}
use Rattle.ed_group.specs.Judging.{standing_fault}
use Rattle.ed_script.specs.declared.kinds.Command.{Command}
use Rattle.ed_entry.specs.declared.Reply.{Reply}
use Rattle.ed_machine.specs.State.{State, number_of, record_now, count}
use Rattle.ed_machine.specs.Naming.{members}
use Rattle.ed_machine.specs.Accepted.{Outcome, answers, accepted, made, edited_to, edit_group}
use Rattle.ed_machine.specs.Refusals.{refusal, tests, wrong_kind, is_projection, no_hook, stale, past, past_spans, len_now}
use Rattle.ed_machine.specs.Step.{told, or_refused}
use Rattle.ed_core.specs.Asking.{members_asked, past_members, spans_refusal, replaces_outcome}
use Rattle.ed_core.specs.Deciding.{base_outcome, projection_outcome, one_edit, changes_outcome, edit_outcome, spans_outcome}
use Rattle.ed_core.specs.Within.{IsWithin}
use Rattle.ed_core.proofs.Asking.{asked-none, asked-some, pasts}
use Rattle.ed_core.proofs.Deciding.{decided, or_refused-twice}
use Rattle.ed_core.proofs.Few.{few-new, few-kept}
use Rattle.ed_core.proofs.Firsts.{first_some-append, or_else-none}
use Rattle.ed_core.proofs.Keeping.{keeps-landed, keeps-spans_set}
use Rattle.ed_core.proofs.Limits.{told-refused}
use Rattle.ed_core.proofs.Nothing.{nothing_denied, nothing_faulty, nothing_sent, some_landed}
use Rattle.ed_core.proofs.Resolvers.{limits-new}

or_else-assoc : {X : Type 0} (a b c : Option X) → or_else (or_else a b) c ≡ or_else a (or_else b c)
or_else-assoc None b c = refl
or_else-assoc (Some x) b c = refl

-- one more behind
pub behind : {X : Type 0} (os : List (Option X)) (l : Option X) → or_else (first_some os) l ≡ first_some (os ++ l ∷ [])
behind os l = ap (or_else (first_some os)) (sym (or_else-none l)) ∙ sym (first_some-append os (l ∷ []))

-- ---- a new base

module _ (hooks : HookTable) (s : State) (name text : List ℕ) where
  abbrev opening : Command
  opening = Command.Buffer name text

  taken : is_some (number_of s name) ≡ true → refusal hooks s opening ≡ Some Refusal.NameTaken
  unfolding tests
  taken e = rw e refl

  free : is_some (number_of s name) ≡ false → refusal hooks s opening ≡ None
  unfolding tests
  free e = rw e refl

  makes : accepted hooks s opening ≡ made s name (base text 0) None
  unfolding accepted
  makes = refl

  pub buffer_taken : is_some (number_of s name) ≡ true → told hooks s (Command.Buffer name text) ≡ answers s (Reply.Refused Refusal.NameTaken)
  buffer_taken e = told-refused hooks s opening Refusal.NameTaken (taken e)

  pub buffer_step : is_some (number_of s name) ≡ false → IsWithin s → told hooks s (Command.Buffer name text) ≡ base_outcome s name text
  buffer_step e within = decided hooks s opening None (made s name (base text 0) None) (free e) makes refl (few-new s.stock (base text 0) None within.regions) within.answered

-- ---- a new projection

-- the last of four reasons stands for itself
last_reason : {X : Type 0} (a b c : Option X) (x : X) → first_some (a ∷ b ∷ c ∷ Some x ∷ []) ≡ Some (unwrap_or (first_some (a ∷ b ∷ c ∷ [])) x)
last_reason None None None x = refl
last_reason None None (Some z) x = refl
last_reason None (Some z) c x = refl
last_reason (Some z) b c x = refl

module _ (hooks : HookTable) (s : State) (name : List ℕ) (spans : List ScriptSpan) (resolver : Option (List ℕ)) where
  abbrev showing : Command
  showing = Command.Projection name spans resolver

  abbrev shown : List Member
  shown = members s spans

  abbrev faults : List (Option Refusal)
  faults = mode_fault (len_now s) shown ∷ overlap_fault shown ∷ depth s.stock (count s + 1) (count s) (sources_in [] shown) ∷ []

  abbrev unresolved : Option Refusal
  unresolved = no_hook hooks.resolvers resolver

  abbrev then_hook : Option Refusal → Option Refusal
  then_hook hook = first_some (mode_fault (len_now s) shown ∷ overlap_fault shown ∷ depth s.stock (count s + 1) (count s) (sources_in [] shown) ∷ hook ∷ [])

  unnamed_first : None ≡ members_asked s spans → refusal hooks s showing ≡ Some Refusal.NoBuffer
  unfolding tests
  unnamed_first none = rw (asked-none s spans none) refl

  taken_next : (ms : List Member) → Some ms ≡ members_asked s spans → is_some (number_of s name) ≡ true → refusal hooks s showing ≡ Some Refusal.NameTaken
  unfolding tests
  taken_next ms some e = rw ((asked-some s spans ms some).0, e) refl

  past_next : (ms : List Member) → Some ms ≡ members_asked s spans → is_some (number_of s name) ≡ false → refusal hooks s showing ≡ or_else (past_members s ms) (then_hook unresolved)
  unfolding tests
  past_next ms some e = rw ((asked-some s spans ms some).0, e) (ap (λ o. or_else o (then_hook unresolved)) (pasts s spans ∙ ap (past_members s) (sym (asked-some s spans ms some).1)))

  shows : accepted hooks s showing ≡ made s name (projection_of s.stock shown) resolver
  unfolding accepted
  shows = refl

  pub projection_missing : None ≡ members_asked s spans → told hooks s (Command.Projection name spans resolver) ≡ answers s (Reply.Refused Refusal.NoBuffer)
  projection_missing none = told-refused hooks s showing Refusal.NoBuffer (unnamed_first none)

  pub projection_taken : (ms : List Member) → Some ms ≡ members_asked s spans → is_some (number_of s name) ≡ true → told hooks s (Command.Projection name spans resolver) ≡ answers s (Reply.Refused Refusal.NameTaken)
  projection_taken ms some e = told-refused hooks s showing Refusal.NameTaken (taken_next ms some e)

  pub projection_past : (ms : List Member) (r : Refusal) → Some ms ≡ members_asked s spans → is_some (number_of s name) ≡ false → Some r ≡ past_members s ms → told hooks s (Command.Projection name spans resolver) ≡ answers s (Reply.Refused r)
  projection_past ms r some e ends = told-refused hooks s showing r (past_next ms some e ∙ ap (λ o. or_else o (then_hook unresolved)) (sym ends))

  -- past the spans, what is left
  left_next : (ms : List Member) → Some ms ≡ members_asked s spans → is_some (number_of s name) ≡ false → None ≡ past_members s ms → (hook : Option Refusal) → hook ≡ unresolved → refusal hooks s showing ≡ then_hook hook
  left_next ms some e ends hook found = past_next ms some e ∙ (ap (λ o. or_else o (then_hook unresolved)) (sym ends) ∙ ap then_hook (sym found))

  pub projection_unresolved : (ms : List Member) (missing r : Refusal) → Some ms ≡ members_asked s spans → is_some (number_of s name) ≡ false → None ≡ past_members s ms → Some missing ≡ unresolved → r ≡ unwrap_or (standing_fault s.stock ms) missing
      → told hooks s (Command.Projection name spans resolver) ≡ answers s (Reply.Refused r)
  projection_unresolved ms missing r some e ends found is =
      told-refused hooks s showing r (left_next ms some e ends (Some missing) found
      ∙ (last_reason (mode_fault (len_now s) shown) (overlap_fault shown) (depth s.stock (count s + 1) (count s) (sources_in [] shown)) missing
      ∙ ap Some (ap (λ (xs : List Member). unwrap_or (standing_fault s.stock xs) missing) (sym (asked-some s spans ms some).1) ∙ sym is)))

  pub projection_step : (ms : List Member) → Some ms ≡ members_asked s spans → is_some (number_of s name) ≡ false → None ≡ past_members s ms → None ≡ unresolved → IsWithin s → told hooks s (Command.Projection name spans resolver) ≡ projection_outcome s name ms resolver
  projection_step ms some e ends found within =
      let limits : Option (List ℕ) → Option Refusal = λ x. first_some (stock_limits (with_new s.stock (projection_of s.stock shown) x)) in
      decided hooks s showing (first_some faults) (made s name (projection_of s.stock shown) resolver) (left_next ms some e ends None found) shows refl (few-new s.stock (projection_of s.stock shown) resolver within.regions) within.answered
      ∙ (ap (λ o. or_refused s (or_else (first_some faults) o) (made s name (projection_of s.stock shown) resolver)) (ap first_some (limits-new s.stock (projection_of s.stock shown) resolver None))
      ∙ (ap (λ o. or_refused s o (made s name (projection_of s.stock shown) resolver)) (behind faults (limits None))
      ∙ ap (λ (xs : List Member). projection_outcome s name xs resolver) (sym (asked-some s spans ms some).1)))

-- ---- an edit

module _ (hooks : HookTable) (s : State) (name : List ℕ) (replaces : List Replace) (at : Option ℕ) where
  abbrev asked : Command
  asked = Command.Edit name replaces at

  missing : None ≡ number_of s name → refusal hooks s asked ≡ Some Refusal.NoBuffer
  unfolding tests
  missing none = rw (← none) refl

  module _ (n : ℕ) (found : Some n ≡ number_of s name) where
    abbrev ends : Option Refusal
    ends = past (map (λ r. r.start + r.len) replaces) (len_now s n)

    abbrev form : ChangeList
    form = normal_form replaces (len_now s n)

    -- why these pieces aren't landed, but for limits
    abbrev kept_back : List (ℕ × Piece) → List (Option Refusal)
    kept_back ps = ends ∷ down_fault hooks s.stock ps ∷ denial hooks s.stock (sent_down hooks s.stock ps) ∷ []

    -- what they make where they are landed
    abbrev land_of : List (ℕ × Piece) → Rising
    land_of ps = landed s.stock (sent_down hooks s.stock ps) none_given none_given

    there : refusal hooks s asked ≡ or_else (stale s n at) (first_some (kept_back (pieces_of_changes n form.changes)))
    unfolding tests
    there = rw (← found) refl

    does : accepted hooks s asked ≡ edit_group s (sent_down hooks s.stock (pieces_of_changes n form.changes))
    unfolding accepted
    does = rw (← found) refl

    pub edit_refused : (r : Refusal) → Some r ≡ stale s n at → told hooks s (Command.Edit name replaces at) ≡ answers s (Reply.Refused r)
    edit_refused r some = told-refused hooks s asked r (there ∙ ap (λ o. or_else o (first_some (kept_back (pieces_of_changes n form.changes)))) (sym some))

    none_back : first_some (kept_back []) ≡ or_else ends None
    none_back = ap (λ o. first_some (ends ∷ o ∷ denial hooks s.stock (sent_down hooks s.stock []) ∷ [])) (nothing_faulty hooks s.stock)
        ∙ (ap (λ ps. or_else ends (or_else (denial hooks s.stock ps) None)) (nothing_sent hooks s.stock)
        ∙ ap (λ o. or_else ends (or_else o None)) (nothing_denied hooks s.stock))

    one_pieces : pieces_of_edits (one_edit n form) ≡ pieces_of_changes n form.changes
    one_pieces = append-nil (pieces_of_changes n form.changes)

    by_changes : (cs : List Change) → form.changes ≡ cs → None ≡ stale s n at → IsWithin s → told hooks s asked ≡ replaces_outcome hooks s n replaces
    by_changes [] e none within =
        let reason : refusal hooks s asked ≡ or_else ends None = there ∙ (ap (λ o. or_else o (first_some (kept_back (pieces_of_changes n form.changes)))) (sym none) ∙ (ap (λ cs. first_some (kept_back (pieces_of_changes n cs))) e ∙ none_back)) in
        let idle : accepted hooks s asked ≡ answers s (Reply.Edited []) = does ∙ (ap (λ cs. edit_group s (sent_down hooks s.stock (pieces_of_changes n cs))) e ∙ ap (edit_group s) (nothing_sent hooks s.stock)) in
        let same : changes_outcome hooks s n form ≡ answers s (Reply.Edited []) = rw e refl in
        decided hooks s asked (or_else ends None) (answers s (Reply.Edited [])) reason idle refl within.regions within.answered
        ∙ (ap (λ o. or_refused s o (answers s (Reply.Edited []))) (ap (or_else (or_else ends None)) within.stock ∙ (or_else-none (or_else ends None) ∙ or_else-none ends))
        ∙ ap (or_refused s ends) (sym same))
    by_changes (x ∷ xs) e none within =
        let ps : List (ℕ × Piece) = pieces_of_changes n (x ∷ xs) in
        let pieces : pieces_of_changes n form.changes ≡ ps = ap (pieces_of_changes n) e in
        let reason : refusal hooks s asked ≡ first_some (kept_back ps) = there ∙ (ap (λ o. or_else o (first_some (kept_back (pieces_of_changes n form.changes)))) (sym none) ∙ ap (λ qs. first_some (kept_back qs)) pieces) in
        let group : accepted hooks s asked ≡ edited_to s (land_of ps) = does ∙ (ap (λ qs. edit_group s (sent_down hooks s.stock qs)) pieces ∙ some_landed hooks s (n, own_piece x) (pieces_of_changes n xs)) in
        let same : changes_outcome hooks s n form ≡ edit_outcome hooks s n form = rw e refl in
        let lands : List (ℕ × Piece) → Outcome = λ qs. or_refused s (first_some (down_fault hooks s.stock qs ∷ denial hooks s.stock (sent_down hooks s.stock qs) ∷ first_some (stock_limits (land_of qs).stock) ∷ [])) (edited_to s (land_of qs)) in
        let limits : Option Refusal = first_some (stock_limits (land_of ps).stock) in
        decided hooks s asked (first_some (kept_back ps)) (edited_to s (land_of ps)) reason group refl (few-kept s.stock (land_of ps).stock (keeps-landed s.stock (sent_down hooks s.stock ps) none_given none_given) within.regions) within.answered
        ∙ (ap (λ o. or_refused s o (edited_to s (land_of ps))) (behind (kept_back ps) limits)
        ∙ (sym (or_refused-twice s ends (first_some (down_fault hooks s.stock ps ∷ denial hooks s.stock (sent_down hooks s.stock ps) ∷ limits ∷ [])) (edited_to s (land_of ps)))
        ∙ ap (or_refused s ends) (ap lands (sym (one_pieces ∙ pieces)) ∙ sym same)))

    pub edit_step : None ≡ stale s n at → IsWithin s → told hooks s (Command.Edit name replaces at) ≡ replaces_outcome hooks s n replaces
    edit_step none within = by_changes form.changes refl none within

  pub edit_missing : None ≡ number_of s name → told hooks s (Command.Edit name replaces at) ≡ answers s (Reply.Refused Refusal.NoBuffer)
  edit_missing none = told-refused hooks s asked Refusal.NoBuffer (missing none)

-- ---- replaced members

module _ (hooks : HookTable) (s : State) (name : List ℕ) (first removed : ℕ) (spans : List ScriptSpan) (at : Option ℕ) where
  abbrev replacing : Command
  replacing = Command.Spans name first removed spans at

  abbrev added : List Member
  added = members s spans

  nowhere : None ≡ number_of s name → refusal hooks s replacing ≡ Some Refusal.NoBuffer
  unfolding tests
  nowhere none = rw (← none) refl

  unnamed_too : (n : ℕ) → Some n ≡ number_of s name → None ≡ members_asked s spans → refusal hooks s replacing ≡ Some Refusal.NoBuffer
  unfolding tests
  unnamed_too n found none = rw (← found) (rw (asked-none s spans none) refl)

  pub spans_missing : None ≡ number_of s name → told hooks s (Command.Spans name first removed spans at) ≡ answers s (Reply.Refused Refusal.NoBuffer)
  spans_missing none = told-refused hooks s replacing Refusal.NoBuffer (nowhere none)

  pub spans_unnamed : (n : ℕ) → Some n ≡ number_of s name → None ≡ members_asked s spans → told hooks s (Command.Spans name first removed spans at) ≡ answers s (Reply.Refused Refusal.NoBuffer)
  spans_unnamed n found none = told-refused hooks s replacing Refusal.NoBuffer (unnamed_too n found none)

  module _ (n : ℕ) (found : Some n ≡ number_of s name) (ms : List Member) (some : Some ms ≡ members_asked s spans) where
    abbrev after : List Member
    after = spans_replaced (members_of (record_now s n)) first removed added

    abbrev why : List (Option Refusal)
    why = mode_fault (len_now s) after ∷ overlap_fault after ∷ cycle s.stock n added ∷ depth s.stock (count s) n (sources_in [] after) ∷ []

    abbrev parts : Option Refusal → List (Option Refusal)
    parts ends = wrong_kind s n is_projection ∷ stale s n at ∷ past ((first + removed) ∷ []) (length (members_of (record_now s n))) ∷ ends ∷ []

    reasons : refusal hooks s replacing ≡ or_else (spans_refusal s n at (first + removed) ms) (first_some why)
    unfolding tests
    reasons = rw (← found) (rw (asked-some s spans ms some).0 (first_some-append (parts (past_spans s spans)) why ∙ ap (λ o. or_else (first_some (parts o)) (first_some why)) (pasts s spans ∙ ap (past_members s) (sym (asked-some s spans ms some).1))))

    replaces : accepted hooks s replacing ≡ edited_to s (spans_set s.stock n first removed added)
    unfolding accepted
    replaces = rw (← found) refl

    pub spans_refused : (r : Refusal) → Some r ≡ spans_refusal s n at (first + removed) ms → told hooks s (Command.Spans name first removed spans at) ≡ answers s (Reply.Refused r)
    spans_refused r is = told-refused hooks s replacing r (reasons ∙ ap (λ o. or_else o (first_some why)) (sym is))

    pub spans_step : None ≡ spans_refusal s n at (first + removed) ms → IsWithin s → told hooks s (Command.Spans name first removed spans at) ≡ spans_outcome s n first removed ms
    spans_step none within =
        decided hooks s replacing (first_some why) (edited_to s (spans_set s.stock n first removed added)) (reasons ∙ ap (λ o. or_else o (first_some why)) (sym none)) replaces refl (few-kept s.stock (spans_set s.stock n first removed added).stock (keeps-spans_set s.stock n first removed added) within.regions) within.answered
        ∙ (ap (λ o. or_refused s o (edited_to s (spans_set s.stock n first removed added))) (behind why (first_some (stock_limits (spans_set s.stock n first removed added).stock)))
        ∙ ap (spans_outcome s n first removed) (sym (asked-some s spans ms some).1))

-- ---- by what the code finds

pub is-taken : (s : State) (name : List ℕ) (o : Option ℕ) → o ≡ number_of s name → true ≡ is_some o → is_some (number_of s name) ≡ true
is-taken s name o is some = ap is_some (sym is) ∙ sym some

pub is-free : (s : State) (name : List ℕ) (o : Option ℕ) → o ≡ number_of s name → false ≡ is_some o → is_some (number_of s name) ≡ false
is-free s name o is none = ap is_some (sym is) ∙ sym none

pub same-base : (hooks : HookTable) (s : State) (kept name text units : List ℕ) → kept ≡ name → text ≡ units → is_some (number_of s name) ≡ false → IsWithin s → base_outcome s kept text ≡ told hooks s (Command.Buffer name units)
same-base hooks s kept name text units e f new within = ap (λ n. base_outcome s n text) e ∙ (ap (base_outcome s name) f ∙ sym (buffer_step hooks s name units new within))

pub same-projection : (hooks : HookTable) (s : State) (kept name : List ℕ) (spans : List ScriptSpan) (ms : List Member) (shared resolver : Option (List ℕ)) → kept ≡ name → shared ≡ resolver → Some ms ≡ members_asked s spans → is_some (number_of s name) ≡ false → None ≡ past_members s ms
    → None ≡ no_hook hooks.resolvers resolver → IsWithin s → projection_outcome s kept ms shared ≡ told hooks s (Command.Projection name spans resolver)
same-projection hooks s kept name spans ms shared resolver e f some new ends found within = (λ i. projection_outcome s (e i) ms (f i)) ∙ sym (projection_step hooks s name spans resolver ms some new ends found within)
