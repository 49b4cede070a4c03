-- Where no two buffers, of the edited one and those below it, stand on one, each buffer below gets from one carrier alone.
use Rattle.std.proofs.Common.{◌≡◌, ◌≢◌, ℕ, zero, suc, ◌+◌, ◌<◌, ◌≤◌, Bool, true, false, ◌||◌, List, [], ◌∷◌, ◌++◌, length, map, ◌⊎◌, inl, inr, refl, sym, ap, ◌∙◌, arith, subst}
use Rattle.std.specs.Prelude.{flat_map, nat_eq, nat_lt}
use Rattle.std.specs.List.{list_any}
use Rattle.std.proofs.lemmas.Bool.{cases_Bool}
use Rattle.std.proofs.lemmas.Bool.Decides.{nat_tests}
use Rattle.ed_base.specs.declared.piece.Piece.{Piece}
use Rattle.ed_base.specs.Hooks.{HookTable}
use Rattle.ed_base.specs.Numbers.{is_among}
use Rattle.ed_layers.specs.Graph.{reaches_within}
use Rattle.ed_layers.specs.Records.{members_of, sources_of}
use Rattle.ed_layers.specs.Sending.{sent}
use Rattle.ed_stock.specs.Stock.{Stock, count, reaches, record_now, sources_now, text_now}
use Rattle.ed_stock.specs.Landing.{carriers_down, pieces_at, sent_down}
use Rattle.ed_sending.specs.OneCarrierEach.{HasOneCarrierEach}
use Rattle.ed_sending.proofs.Lists.SortedParts.{Each}
use Rattle.ed_sending.proofs.Carriers.NothingArrived.{nothing_arrived}
use Rattle.ed_sending.proofs.Members.DealtPieces.{flat_none}
use Rattle.ed_sending.proofs.Groups.SendingOrder.{height_low}
use Rattle.ed_sending.proofs.Groups.Arrivals.{arrives_all, none_sent, no_higher, send}
use Rattle.ed_sending.specs.Ready.{IsReady, NamesLower, height_now}
use Rattle.ed_sending.proofs.Groups.ReadyStocks.{source_named}

-- ---- nothing that arrives

-- a carrier at which nothing arrives sends nothing
nothing_sent : (hooks : HookTable) (s : Stock) (c : ℕ) → send hooks s c [] ≡ []
nothing_sent hooks s c = ap (sent c (members_of (record_now s c)) _) (nothing_arrived (length (text_now s c)))

-- ---- what is reached

or_cases : (a b : Bool) → (a || b) ≡ true → (a ≡ true) ⊎ (b ≡ true)
or_cases true b e = inl refl
or_cases false b e = inr e

or_right : (a b : Bool) → b ≡ true → (a || b) ≡ true
or_right true b e = refl
or_right false b e = e

or_left : (a b : Bool) → a ≡ true → (a || b) ≡ true
or_left true b e = refl
or_left false b e = absurd (let f : false ≡ true = e in cc)

same_numbers : (a b : ℕ) → nat_eq a b ≡ true → a ≡ b
same_numbers a b e = grind (arith, nat_tests, e)

itself : (a : ℕ) → nat_eq a a ≡ true
itself a = grind (arith, nat_tests)

among_any : (f : ℕ → Bool) (x : ℕ) (xs : List ℕ) → is_among x xs ≡ true → f x ≡ true → list_any f xs ≡ true
among_any f x [] among so = absurd (let e : false ≡ true = among in cc)
among_any f x (y ∷ ys) among so = elim (or_cases (nat_eq x y) (is_among x ys) among) [
  | inl e ↦ or_left (f y) (list_any f ys) (subst (λ z. f z ≡ true) (same_numbers x y e) so)
  | inr more ↦ or_right (f y) (list_any f ys) (among_any f x ys more so)
]

any_among : (f : ℕ → Bool) (xs : List ℕ) → list_any f xs ≡ true → (x : ℕ) × (is_among x xs ≡ true) × (f x ≡ true)
any_among f [] any = absurd (let e : false ≡ true = any in cc)
any_among f (y ∷ ys) any = elim (or_cases (f y) (list_any f ys) any) [
  | inl e ↦ (y, or_left (nat_eq y y) (is_among y ys) (itself y), e)
  | inr more ↦ (let found = any_among f ys more in (found.0, or_right (nat_eq found.0 y) (is_among found.0 ys) found.1, found.2))
]

-- what all versions listed have by their buffers, a buffer among them has
of_listed : (P : ℕ → Type 0) (vs : List (ℕ × ℕ)) (b : ℕ) → Each (λ v. P v.0) vs → is_among b (map (λ v. v.0) vs) ≡ true → P b
of_listed P [] b all among = absurd (let e : false ≡ true = among in cc)
of_listed P (v ∷ vs) b all among = elim (or_cases (nat_eq b v.0) (is_among b (map (λ v. v.0) vs)) among) [
  | inl e ↦ subst P (sym (same_numbers b v.0 e)) all.0
  | inr more ↦ of_listed P vs b all.1 more
]

module _ (s : Stock) (low : NamesLower s) where
  lower_source : (c b : ℕ) → c < count s → is_among b (sources_now s c) ≡ true → (b < count s) × (height_now s b < height_now s c)
  lower_source c b there among = of_listed (λ d. (d < count s) × (height_now s d < height_now s c)) (sources_of (record_now s c)) b (low c there) among

  reach_self : (n a : ℕ) → reaches_within (sources_now s) (count s) n a a ≡ true
  unfolding reaches_within
  reach_self zero a = itself a
  reach_self (suc n) a = or_left (nat_eq a a) _ (itself a)

  -- what is reached is there, and no higher
  reach_low : (n a c : ℕ) → a < count s → reaches_within (sources_now s) (count s) n a c ≡ true → (c < count s) × (height_now s c ≤ height_now s a)
  unfolding reaches_within
  reach_low zero a c there r = subst (λ d. (d < count s) × (height_now s d ≤ height_now s a)) (same_numbers a c r) (there, omega arith)
  reach_low (suc n) a c there r = elim (or_cases (nat_eq a c) (list_any (λ d. reaches_within (sources_now s) (count s) n d c) (sources_now s a)) r) [
    | inl e ↦ subst (λ d. (d < count s) × (height_now s d ≤ height_now s a)) (same_numbers a c e) (there, omega arith)
    | inr any ↦ (let found = any_among (λ d. reaches_within (sources_now s) (count s) n d c) (sources_now s a) any in
        let step = lower_source a found.0 there found.1 in
        let rest = reach_low n found.0 c step.0 found.2 in
        let l : height_now s found.0 < height_now s a = step.1 in
        let m : height_now s c ≤ height_now s found.0 = rest.1 in
        (rest.0, omega (arith, l, m)))
  ]

  -- one source further
  reach_step : (n a c b : ℕ) → a < count s → height_now s a ≤ n → reaches_within (sources_now s) (count s) n a c ≡ true → is_among b (sources_now s c) ≡ true → reaches_within (sources_now s) (count s) n a b ≡ true
  unfolding reaches_within
  reach_step zero a c b there short r among =
      let among_a : is_among b (sources_now s a) ≡ true = subst (λ d. is_among b (sources_now s d) ≡ true) (sym (same_numbers a c r)) among in
      let l : height_now s b < height_now s a = (lower_source a b there among_a).1 in
      absurd (omega (arith, l, short))
  reach_step (suc n) a c b there short r among = elim (or_cases (nat_eq a c) (list_any (λ d. reaches_within (sources_now s) (count s) n d c) (sources_now s a)) r) [
    | inl e ↦ or_right (nat_eq a b) _ (among_any (λ d. reaches_within (sources_now s) (count s) n d b) b (sources_now s a) (subst (λ d. is_among b (sources_now s d) ≡ true) (sym (same_numbers a c e)) among) (reach_self n b))
    | inr any ↦ (let found = any_among (λ d. reaches_within (sources_now s) (count s) n d c) (sources_now s a) any in
        let step = lower_source a found.0 there found.1 in
        let l : height_now s found.0 < height_now s a = step.1 in
        or_right (nat_eq a b) _ (among_any (λ d. reaches_within (sources_now s) (count s) n d b) found.0 (sources_now s a) found.1 (reach_step n found.0 c b step.0 (omega (arith, l, short)) found.2 among)))
  ]

-- ---- buffers aside

none_at : (top e : ℕ) (start : List (ℕ × Piece)) → Each (λ bp. bp.0 ≡ top) start → e ≢ top → pieces_at start e ≡ []
none_at top e [] all other = refl
none_at top e (bp ∷ bps) all other =
    let is : bp.0 ≡ top = all.0 in
    let f : nat_eq bp.0 e ≡ false = elim (cases_Bool (nat_eq bp.0 e)) [ inl t ↦ absurd (other (sym (same_numbers bp.0 e t) ∙ is)) | inr t ↦ t ] in
    rw f (none_at top e bps all.1 other)

module _ (hooks : HookTable) (s : Stock) (ready : IsReady s) (low : NamesLower s) (top : ℕ) (there : top < count s) (start : List (ℕ × Piece)) (at_top : Each (λ bp. bp.0 ≡ top) start) where
  abbrev arriving : ℕ → List Piece
  arriving e = pieces_at (sent_down hooks s start) e

  abbrev pub IsAtOrBelow : ℕ → Type 0
  IsAtOrBelow b = (b < count s) × (reaches s top b ≡ true)

  pub top_reached : reaches s top top ≡ true
  top_reached = reach_self s low (count s) top

  reached_low : (c : ℕ) → reaches s top c ≡ true → (c < count s) × (height_now s c ≤ height_now s top)
  reached_low c r = reach_low s low (count s) top c there r

  reached_step : (c b : ℕ) → reaches s top c ≡ true → is_among b (sources_now s c) ≡ true → IsAtOrBelow b
  reached_step c b r among =
      let f = reached_low c r in
      ((lower_source s low c b f.0 among).0, reach_step s low (count s) top c b there (height_low (sources_now s) (count s) (count s) top) r among)

  -- a buffer that the edited one doesn't stand on gets nothing, if those above it don't
  aside_if : (e : ℕ) → reaches s top e ≡ false → ((c : ℕ) → height_now s e < height_now s c → reaches s top c ≡ false → arriving c ≡ []) → arriving e ≡ []
  aside_if e aside above =
      arrives_all hooks s ready.lower start e
      ∙ ap (λ ps. ps ++ flat_map (λ c. pieces_at (send hooks s c (arriving c)) e) (carriers_down s)) (none_at top e start at_top (λ is. (let t : reaches s top e ≡ true = subst (λ d. reaches s top d ≡ true) (sym is) top_reached in let f : true ≡ false = sym t ∙ aside in cc)))
      ∙ flat_none (λ c. pieces_at (send hooks s c (arriving c)) e) (carriers_down s) (all (carriers_down s))
    where
      one : (c : ℕ) → pieces_at (send hooks s c (arriving c)) e ≡ []
      one c = elim (cases_Bool (nat_lt (height_now s e) (height_now s c))) [
        | inl t ↦ (let l : height_now s e < height_now s c = grind (arith, nat_tests, t) in
            elim (cases_Bool (reaches s top c)) [
              | inl r ↦ none_sent c (members_of (record_now s c)) _ _ e (λ k x mode is. (let m = reached_step c e r (source_named s ready c k e x mode is) in let f : true ≡ false = sym m.1 ∙ aside in cc))
              | inr r ↦ ap (λ ps. pieces_at (send hooks s c ps) e) (above c l r) ∙ ap (λ ps. pieces_at ps e) (nothing_sent hooks s c)
            ])
        | inr t ↦ no_higher hooks s ready.lower c e (grind (arith, nat_tests, t)) (arriving c)
      ]

      all : (cs : List ℕ) → Each (λ c. pieces_at (send hooks s c (arriving c)) e ≡ []) cs
      all [] = tt
      all (c ∷ cs) = (one c, all cs)

  aside_within : (fuel e : ℕ) → count s ≤ height_now s e + fuel → reaches s top e ≡ false → arriving e ≡ []
  aside_within zero e far aside = aside_if e aside (λ c l r. (let h : height_now s c ≤ count s = height_low (sources_now s) (count s) (count s) c in absurd (omega (arith, l, h, far))))
  aside_within (suc fuel) e far aside = aside_if e aside (λ c l r. aside_within fuel c (omega (arith, l, far)) r)

  pub aside_none : (e : ℕ) → reaches s top e ≡ false → arriving e ≡ []
  aside_none e aside = aside_within (count s) e (omega arith) aside

  -- what a buffer aside sends
  sends_none : (e b : ℕ) → reaches s top e ≡ false → pieces_at (send hooks s e (arriving e)) b ≡ []
  sends_none e b aside = ap (λ ps. pieces_at (send hooks s e ps) b) (aside_none e aside) ∙ ap (λ ps. pieces_at ps b) (nothing_sent hooks s e)

  -- nothing is sent to the edited buffer
  pub top_alone : (e : ℕ) → pieces_at (send hooks s e (arriving e)) top ≡ []
  top_alone e = elim (cases_Bool (reaches s top e)) [
    | inl r ↦ no_higher hooks s ready.lower e top (reached_low e r).1 (arriving e)
    | inr r ↦ sends_none e top r
  ]

  -- each source of a buffer below gets from that one alone
  pub source_alone : HasOneCarrierEach s top → (b : ℕ) → IsAtOrBelow b → (d : ℕ) → is_among d (sources_now s b) ≡ true
      → IsAtOrBelow d × (pieces_at start d ≡ []) × ((e : ℕ) → e ≢ b → pieces_at (send hooks s e (arriving e)) d ≡ [])
  source_alone one b below d among =
      let l : height_now s d < height_now s b = (lower_source s low b d below.0 among).1 in
      let h : height_now s b ≤ height_now s top = (reached_low b below.1).1 in
      (reached_step b d below.1 among, none_at top d start at_top (λ e. (let m : height_now s d ≡ height_now s top = ap (height_now s) e in absurd (omega (arith, l, h, m)))), other)
    where
      other : (e : ℕ) → e ≢ b → pieces_at (send hooks s e (arriving e)) d ≡ []
      other e differs = elim (cases_Bool (reaches s top e)) [
        | inl r ↦ none_sent e (members_of (record_now s e)) _ _ d (λ j y m at. differs (one e b d r below.1 (source_named s ready e j d y m at) among))
        | inr r ↦ sends_none e d r
      ]
