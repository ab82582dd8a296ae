-- Each atomic step keeps the rule of the turn lock.
use Rattle.std.proofs.Common.{◌≡◌, ◌≢◌, ℕ, ◌+◌, ◌%◌, ◌^◌, ◌<◌, ◌≤◌, eqb, List, [], ◌∷◌, ◌++◌, length, set, get_or, All, Bool, true, false, Option, Some, sym, refl, ap, ◌∙◌, subst, ⊎_elim, ◌⊎◌, inl, inr, arith, append-nil, length-append, length-set, true≢false, le_refl}
use mathlib.Core.Logic.{dite}
use mathlib.Core.Option.{some, none, some-ne-none}
use mathlib.Core.Option as maybe
use native.Mathlib.Decide.{ℕ_discrete}
use lib.ListN.{get_elem?}
use prog.Atomic.{either}
use Rattle.atomic_table.specs.Table.{State, step, Act, keeps, takes, gives, Valid, carried_after, homes_after, put_back, Allows, Enters, Splits, Joins, opening}
use Rattle.atomic_table.proofs.Lists.{set_here, set_else, set_again, exchanged}
use Rattle.std.proofs.lemmas.Bool.{false_from_ne_true}
use Rattle.std.proofs.lemmas.List.Elements.{All-weaker, All-nil}
use Rattle.turn_lock.specs.declared.views.Entry.{Entry}
use Rattle.turn_lock.specs.declared.views.Sight.{Sight}
use Rattle.turn_lock.specs.declared.views.Stage.{Stage}
use Rattle.turn_lock.specs.declared.views.Stage.TheVariants.{Outside, HasTurn}
use Rattle.turn_lock.specs.declared.views.View.{View}
use Rattle.turn_lock.specs.Fronts.{among, least, Front, events, own, made}
use Rattle.turn_lock.specs.Rule.{sight, nothing, view, newcomer, spent, IsFree, IsTaken, Book, Sees, InStage, Fits, HoldsTurn, IsSeen, IsSlot, Kept, Ruled}
use Rattle.turn_lock.specs.Steps.{Mine, with_turn, after_turn, told_of, kept, cut, entered, peeked, tried, gave, weighed, settled}
use Rattle.turn_lock.proofs.FrontLaws.{among_one, among_append, least_among, no_back, own_of_none, own_append_none, own_of_new, made_of_others, made_each, grows_from_itself, grows_from_nothing, grows_more, longer_of}
use Rattle.turn_lock.proofs.Changes.{hand_over, handed, not_handed, there, at_end, same_at, set_each, add_each, turn_here, turn_set, seen_set, seen_here, turn_more, seen_more}

none_apart : (ns : List ℕ) (n : ℕ) → among ns n ≡ true → among [] n ≡ false
none_apart ns n e = refl

pub not_outside : Outside ≡ HasTurn → ⊥
not_outside e = true≢false (sym (ap is_turn e))
  where
    is_turn : Stage → Bool
    is_turn Outside = false
    is_turn HasTurn = true

-- a turn that is given back is free
free_again : (n : ℕ) → IsTaken n → IsFree ((n + 1) % 2 ^ 64)
free_again n odd = omega (arith, odd)

taken_next : (n : ℕ) → IsFree n → IsTaken (n + 1)
taken_next n even = omega (arith, even)

not_both : (n : ℕ) → IsFree n → IsTaken n → ⊥
not_both n even odd = omega (arith, even, odd)

module _ {E : Type 0} where
  -- what a view sees stays, where others' entries come
  sees_more : (log new : Front E) (owner : ℕ → ℕ) (count j : ℕ) (seen : Sight E) → Sees log owner count j seen → own seen.numbers new ≡ [] → Sees (new ++ log) owner count j seen
  sees_more log new owner count j seen s apart = record { grows = grows_more seen.numbers seen.front log new s.grows apart; owned = s.owned }

  -- and where numbers that aren't its own go elsewhere
  sees_on : (log : Front E) (owner owner' : ℕ → ℕ) (count count' j : ℕ) (seen : Sight E) → Sees log owner count j seen → ((n : ℕ) → among seen.numbers n ≡ true → (owner' n ≡ owner n) × (count ≤ count'))
      → Sees log owner' count' j seen
  sees_on log owner owner' count count' j seen s same = record {
    grows = s.grows;
    owned = λ n e. let was = s.owned n e in let now = same n e in (now.0 ∙ was.0, (let le = now.1 in let lt = was.1 in omega (arith, le, lt)));
  }

  sees_nothing : (log : Front E) (owner : ℕ → ℕ) (count j : ℕ) → Sees log owner count j nothing
  sees_nothing log owner count j = record { grows = grows_from_nothing [] log (own_of_none log); owned = λ n e. absurd (true≢false (sym e)) }

  -- the number n isn't among those of a view that doesn't own it
  not_among : (log : Front E) (owner : ℕ → ℕ) (count j : ℕ) (seen : Sight E) (n : ℕ) → Sees log owner count j seen → owner n ≢ j → among seen.numbers n ≡ false
  not_among log owner count j seen n s ne = false_from_ne_true (among seen.numbers n) (λ e. ne (s.owned n e).0)

module _ {S E : Type 0} (stands : List E → S → Type 0) where
  abbrev Homes : Type 0
  Homes = List (maybe.Option (Option S))

  abbrev Rule : State (Option S) (View E) → Type 0
  Rule = Ruled stands

  abbrev Does : ℕ → ℕ → Mine S E → (ℕ → ℕ) → (ℕ → Mine S E → Type 0) → List ℕ → Homes → List (View E) → Type 0
  Does i id me f then words homes views = (w : View E) × (a : Act (Option S)) × Valid homes me.1 a × Rule record { words = set words i (f (get_or words i 0)); homes = homes_after homes me.1 a; views = set views id w }
      × then (get_or words i 0) (w, carried_after me.1 a)

  -- it is enough to show a step on the number of the book's turn
  allows : (slots i id : ℕ) (me : Mine S E) (f : ℕ → ℕ) (then : ℕ → Mine S E → Type 0)
      → ((book : Book E) (homes : Homes) (views : List (View E)) → Kept stands book homes views → get_elem? views id ≡ some me.0 → Does i id me f then (book.turns ∷ []) homes views)
      → Allows Rule slots id me i f then
  allows slots i id me f then does s r len at small = subst (λ (ws : List ℕ). Does i id me f then ws s.homes s.views) (sym r.1) (does r.0 s.homes s.views r.2 at)

  -- a step that changes nothing
  stays : (book : Book E) (homes : Homes) (views : List (View E)) (id : ℕ) (v : View E) → Kept stands book homes views → get_elem? views id ≡ some v → Kept stands book homes (set views id v)
  stays book homes views id v k at = subst (λ (vs : List (View E)). Kept stands book homes vs) (sym (set_again views id v at)) k

  -- who has the turn, has it in other views
  slot_on : (log : Front E) (turns holder : ℕ) (homes : Homes) (views views' : List (View E)) → (HoldsTurn views holder → HoldsTurn views' holder) → IsSlot stands log turns holder homes views → IsSlot stands log turns holder homes views'
  slot_on log turns holder homes views views' stays s = record { free = s.free; taken = λ odd. let h = s.taken odd in (h.0, stays h.1) }

  -- word 0 is loaded, and nothing changes
  pub peeks : (slots id : ℕ) (me : Mine S E) → Allows Rule slots id me 0 (λ n. n) (peeked (step slots 0 0 0 none) me)
  peeks slots id me = allows slots 0 id me (λ n. n) (peeked (step slots 0 0 0 none) me) (λ book homes views k at. (me.0, keeps, tt, (book, refl, stays book homes views id me.0 k at), refl))

  -- word 0 is loaded, and the view stays
  pub weighs : (slots id : ℕ) (me : Mine S E) → Allows Rule slots id me 0 (λ n. n) (weighed (step slots 0 0 0 none) me)
  weighs slots id me = allows slots 0 id me (λ n. n) (weighed (step slots 0 0 0 none) me) (λ book homes views k at. let f = k.each_view id me.0 at in
      (me.0, keeps, tt, (book, refl, stays book homes views id me.0 k at), (refl, record { log = book.log; seen = f.seen.grows; told = f.told.grows; apart = f.apart })))

  -- a view changes, and all that the book says stays
  reviewed : (book : Book E) (homes : Homes) (views : List (View E)) (id : ℕ) (v w : View E) → Kept stands book homes views → get_elem? views id ≡ some v → Fits book id w → w.stage ≡ v.stage
      → ((v.seen.front ≡ book.log) ⊎ (v.told.front ≡ book.log) → (w.seen.front ≡ book.log) ⊎ (w.told.front ≡ book.log)) → Kept stands book homes (set views id w)
  reviewed book homes views id v w k at fits same front = record {
    counted = length-set views id w ∙ k.counted;
    each_view = set_each (Fits book) views id w fits (λ j d ne e. k.each_view j d e);
    each_entry = k.each_entry;
    longest = seen_set views id v w at book.log front k.longest;
    slot = slot_on book.log book.turns book.holder homes views (set views id w) (turn_set views id v w at book.holder (λ is. same ∙ is)) k.slot;
  }

  pub settles : (slots id : ℕ) (me : Mine S E) → me.0.stage ≡ Outside → Allows Rule slots id me 0 (λ n. n) (settled (step slots 0 0 0 none) me)
  settles slots id me out = allows slots 0 id me (λ n. n) (settled (step slots 0 0 0 none) me) (λ book homes views k at. let v : View E = me.0 in let f = k.each_view id v at in
      let l = longer_of v.seen.numbers v.told.numbers v.seen.front v.told.front book.log f.seen.grows f.told.grows in
      let ns : List ℕ = v.seen.numbers ++ v.told.numbers in let w : View E = view (sight l.front ns) nothing Outside in
      let fits : Fits book id w = record {
        seen = record { grows = l.both; owned = λ n e. ⊎_elim (f.seen.owned n) (f.told.owned n) (among_append v.seen.numbers v.told.numbers n e) };
        told = sees_nothing book.log book.owner book.count id;
        apart = none_apart ns;
        stage = tt;
      } in (
        w,
        keeps,
        tt,
        (book, refl, reviewed book homes views id v w k at fits (sym out) (λ e. inl (⊎_elim l.first_whole l.second_whole e))),
        (refl, record { front = l.front; now = refl; one = l.one; seen = l.first; told = l.second; apart = f.apart }),
      ))

  -- while the turn is free nobody has it
  nobody_has : (log : Front E) (turns holder turns' holder' j : ℕ) (front : Front E) (stage : Stage) → IsFree turns → InStage log turns holder j front stage → InStage log turns' holder' j front stage
  nobody_has log turns holder turns' holder' j front Outside even h = tt
  nobody_has log turns holder turns' holder' j front HasTurn even h = absurd (not_both turns even h.0)

  takes_it : (book : Book E) (homes : Homes) (views : List (View E)) (id : ℕ) (v : View E) → Kept stands book homes views → get_elem? views id ≡ some v → IsFree book.turns
      → (turns' : ℕ) → IsTaken turns' → (homes' : Homes) → homes' ≡ none ∷ [] → Kept stands (record book { turns = turns'; holder = id }) homes' (set views id (with_turn v book.log))
  takes_it book homes views id v k at even turns' odd homes' empty = let w : View E = with_turn v book.log in let book' : Book E = record book { turns = turns'; holder = id } in
      let f = k.each_view id v at in record {
        counted = length-set views id w ∙ k.counted;
        each_view = set_each (Fits book') views id w
            record { seen = record { grows = grows_from_itself v.seen.numbers book.log; owned = f.seen.owned }; told = f.told; apart = f.apart; stage = (odd, refl, refl) }
            (λ j d ne e. let g = k.each_view j d e in record { seen = g.seen; told = g.told; apart = g.apart; stage = nobody_has book.log book.turns book.holder turns' id j d.seen.front d.stage even g.stage });
        each_entry = k.each_entry;
        longest = seen_here views id v w at book.log refl;
        slot = record { free = λ even'. absurd (not_both turns' even' odd); taken = λ _. (empty, turn_here views id v w at refl) };
      }

  -- word 0 is compared with n, by which the turn is free, and becomes n + 1
  pub tries : (slots id : ℕ) (me : Mine S E) (n : ℕ) → IsFree n → Allows Rule slots id me 0 (λ x. either (eqb x n) (n + 1) x) (tried stands (step slots 0 n (n + 1) none) me)
  tries slots id me n even = allows slots 0 id me (λ x. either (eqb x n) (n + 1) x) (tried stands (step slots 0 n (n + 1) none) me) (λ book homes views k at. let m : ℕ = book.turns in
      exchanged m n (n + 1) (λ (x : ℕ). (w : View E) × (a : Act (Option S)) × Valid homes me.1 a × Rule record { words = x ∷ []; homes = homes_after homes me.1 a; views = set views id w } × tried stands (step slots 0 n (n + 1) none) me m (w, carried_after me.1 a))
      (λ (is : m ≡ n). let found : IsFree m = subst IsFree (sym is) even in let home = k.slot.free found in (
        with_turn me.0 book.log,
        takes 0 (Some home.0),
        ap (λ (hs : Homes). get_elem? hs 0) home.1,
        (record book { turns = n + 1; holder = id }, refl, takes_it book homes views id me.0 k at found (n + 1) (taken_next n even) (set homes 0 none) (ap (λ (hs : Homes). set hs 0 none) home.1)),
        (λ e. record { log = book.log; state = home.0; now = refl; grows = (k.each_view id me.0 at).seen.grows; for_log = home.2 }, λ ne. absurd (ne is)),
      ))
      (λ (ne : m ≢ n). (me.0, keeps, tt, (book, refl, stays book homes views id me.0 k at), (λ e. absurd (ne e), λ e. refl))))

  -- a view that hasn't the turn doesn't get it by its being given back
  given_stage : (log log' front : Front E) (turns turns' holder id j : ℕ) (stage : Stage) → holder ≡ id → j ≢ id → InStage log turns holder j front stage → InStage log' turns' holder j front stage
  given_stage log log' front turns turns' holder id j Outside holds ne h = tt
  given_stage log log' front turns turns' holder id j HasTurn holds ne h = absurd (ne (sym h.1 ∙ holds))

  gives_it : (book : Book E) (homes : Homes) (views : List (View E)) (id : ℕ) (v : View E) (done : List E) (state : S) → Kept stands book homes views → get_elem? views id ≡ some v → v.stage ≡ HasTurn
      → stands (events (made v.seen.numbers done ++ v.seen.front)) state → among v.seen.numbers (least v.seen.numbers) ≡ true → (turns' : ℕ) → IsFree turns' → (homes' : Homes) → homes' ≡ some (Some state) ∷ []
      → Kept stands (record book { log = made v.seen.numbers done ++ book.log; turns = turns' }) homes' (set views id (after_turn v done))
  gives_it book homes views id v done state k at turn for_front among_least turns' even homes' home = let ns : List ℕ = v.seen.numbers in let new : Front E = made ns done in let w : View E = after_turn v done in
      let book' : Book E = record book { log = new ++ book.log; turns = turns' } in let f = k.each_view id v at in
      let stage : InStage book.log book.turns book.holder id v.seen.front HasTurn = subst (InStage book.log book.turns book.holder id v.seen.front) turn f.stage in
      let of_least = f.seen.owned (least ns) among_least in let longer : new ++ v.seen.front ≡ new ++ book.log = ap (λ (z : Front E). new ++ z) stage.2 in record {
        counted = length-set views id w ∙ k.counted;
        each_view = set_each (Fits book') views id w
            record {
              seen = record { grows = record { more = []; goes_on = sym longer; of_others = refl }; owned = f.seen.owned };
              told = sees_more book.log new book.owner book.count id v.told f.told (made_of_others ns v.told.numbers done (f.apart (least ns) among_least));
              apart = f.apart;
              stage = tt;
            }
            (λ j d ne e. let g = k.each_view j d e in let not_here : book.owner (least ns) ≢ j = λ o. ne (sym o ∙ of_least.0) in record {
              seen = sees_more book.log new book.owner book.count j d.seen g.seen (made_of_others ns d.seen.numbers done (not_among book.log book.owner book.count j d.seen (least ns) g.seen not_here));
              told = sees_more book.log new book.owner book.count j d.told g.told (made_of_others ns d.told.numbers done (not_among book.log book.owner book.count j d.told (least ns) g.told not_here));
              apart = g.apart;
              stage = given_stage book.log book'.log d.seen.front book.turns turns' book.holder id j d.stage stage.1 ne g.stage;
            });
        each_entry = made_each (λ (n : ℕ). n < book.count) ns done book.log of_least.1 k.each_entry;
        longest = seen_here views id v w at book'.log longer;
        slot = record { free = λ _. (state, home, subst (λ (z : Front E). stands (events z) state) longer for_front); taken = λ odd. absurd (not_both turns' even odd) };
      }

  -- word 0 is counted up, and the slot sent home
  pub gives_back : (slots id : ℕ) (me : Mine S E) (done : List E) (state : S) (c : List (ℕ × Option S)) → me.0.stage ≡ HasTurn → me.1 ≡ (0, Some state) ∷ c
      → stands (events (made me.0.seen.numbers done ++ me.0.seen.front)) state → (n : ℕ) → among me.0.seen.numbers n ≡ true → Allows Rule slots id me 0 (λ n. (n + 1) % 2 ^ 64) (gave done (step slots 0 1 0 none) me)
  gives_back slots id me done state c turn carried for_front n is_mine = allows slots 0 id me (λ n. (n + 1) % 2 ^ 64) (gave done (step slots 0 1 0 none) me) (λ book homes views k at. let v : View E = me.0 in
      let f = k.each_view id v at in let stage : InStage book.log book.turns book.holder id v.seen.front HasTurn = subst (InStage book.log book.turns book.holder id v.seen.front) turn f.stage in
      let empty : homes ≡ none ∷ [] = (k.slot.taken stage.0).0 in
      let home : put_back homes me.1 ≡ some (Some state) ∷ [] = ap (put_back homes) carried ∙ ap (λ (hs : Homes). set hs 0 (some (Some state))) empty in (
        after_turn v done,
        gives,
        tt,
        (
          record book { log = made v.seen.numbers done ++ book.log; turns = (book.turns + 1) % 2 ^ 64 },
          refl,
          gives_it book homes views id v done state k at turn for_front (least_among v.seen.numbers n is_mine) ((book.turns + 1) % 2 ^ 64) (free_again book.turns stage.0) (put_back homes me.1) home,
        ),
        refl,
      ))

  -- the lists and the owners after a seat came with the count of views as its number
  pub comes : (s : State (Option S) (View E)) → Rule s → Rule (record { words = s.words; homes = s.homes; views = s.views ++ newcomer (length s.views) ∷ [] })
  comes s r = let book : Book E = r.0 in let k = r.2 in let n : ℕ = book.count in let w : View E = newcomer n in let owner : ℕ → ℕ = hand_over book.owner (n ∷ []) n in
      let book' : Book E = record book { owner = owner; count = n + 1 } in
      let on : (j : ℕ) (seen : Sight E) → Sees book.log book.owner n j seen → Sees book.log owner (n + 1) j seen = λ j seen sees. sees_on book.log book.owner owner n (n + 1) j seen sees (λ m e.
      (not_handed book.owner (n ∷ []) n m (false_from_ne_true (among (n ∷ []) m) (λ is. let same = among_one n m is in let below = (sees.owned m e).1 in omega (arith, same, below))), omega arith)) in
      subst (λ (number : ℕ). Rule (record { words = s.words; homes = s.homes; views = s.views ++ newcomer number ∷ [] })) (sym k.counted) (
        book',
        r.1,
        record {
          counted = length-append s.views (w ∷ []) ∙ (let c = k.counted in ap (λ (x : ℕ). x + 1) c);
          each_view = add_each (Fits book') s.views w
              (subst (λ (j : ℕ). Fits book' j w) (sym k.counted) record {
                seen = record { grows = grows_from_nothing (n ∷ []) book.log (own_of_new n book.log k.each_entry); owned = λ m e. (handed book.owner (n ∷ []) n m e, (let same = among_one n m e in omega (arith, same))) };
                told = sees_nothing book.log owner (n + 1) n;
                apart = none_apart (n ∷ []);
                stage = tt;
              })
              (λ j d e. let g = k.each_view j d e in record { seen = on j d.seen g.seen; told = on j d.told g.told; apart = g.apart; stage = g.stage });
          each_entry = All-weaker (λ (entry : Entry E). entry.seat < n) (λ (entry : Entry E). entry.seat < n + 1) (λ entry below. omega (arith, below)) book.log k.each_entry;
          longest = seen_more s.views w book.log k.longest;
          slot = slot_on book.log book.turns book.holder s.homes s.views (s.views ++ w ∷ []) (turn_more s.views w book.holder) k.slot;
        },
      )

  pub enters : (slots : ℕ) → Enters Rule slots 0 (λ n w. entered {S = S} (step slots 0 0 0 none) (newcomer 0, []) n (w, []))
  enters slots s r len small = (newcomer (length s.views), comes s r, (length s.views, refl))

  -- the seat `other` is taken in by the seat `id`, which is told its front and its numbers
  pub tells : (id : ℕ) (v : View E) (other : ℕ) (w : View E) → v.stage ≡ Outside → w.stage ≡ Outside → v.told ≡ nothing → w.told ≡ nothing → Joins Rule id v other w (told_of v w) spent
  tells id v other w outside outside' untold untold' s r at ne at' = let book : Book E = r.0 in let k = r.2 in let n : ℕ = book.count in let ns : List ℕ = w.seen.numbers in let both : View E = told_of v w in
      let vs : List (View E) = set s.views id both in let owner : ℕ → ℕ = hand_over book.owner ns id in let book' : Book E = record book { owner = owner } in
      let was : get_elem? s.views other ≡ some w = sym (set_else s.views id other both ne) ∙ at' in let f = k.each_view id v at in let g = k.each_view other w was in
      let apart : (m : ℕ) → among v.seen.numbers m ≡ true → among ns m ≡ false = λ m e. not_among book.log book.owner n other w.seen m g.seen (λ o. ne (sym o ∙ (f.seen.owned m e).0)) in
      let on : (j : ℕ) (seen : Sight E) → j ≢ other → Sees book.log book.owner n j seen → Sees book.log owner n j seen = λ j seen far sees. sees_on book.log book.owner owner n n j seen sees
      (λ m e. (not_handed book.owner ns id m (not_among book.log book.owner n other w.seen m g.seen (λ o. far (sym (sees.owned m e).0 ∙ o))), le_refl n)) in
      let near : id ≢ other = λ e. ne (sym e) in (
        book',
        r.1,
        record {
          counted = length-set vs other spent ∙ (length-set s.views id both ∙ k.counted);
          each_view = set_each (Fits book') vs other spent
              record { seen = sees_nothing book.log owner n other; told = sees_nothing book.log owner n other; apart = λ m e. refl; stage = tt }
              (λ j d far e. set_each (λ i x. i ≢ other → Fits book' i x) s.views id both
              (λ _. record {
                seen = on id v.seen near f.seen;
                told = record { grows = g.seen.grows; owned = λ m e. (handed book.owner ns id m e, (g.seen.owned m e).1) };
                apart = apart;
                stage = tt;
              })
              (λ i x ne' e' far'. let h = k.each_view i x e' in record { seen = on i x.seen far' h.seen; told = on i x.told far' h.told; apart = h.apart; stage = h.stage })
              j d e far);
          each_entry = k.each_entry;
          longest = seen_two book.log s.views at at' was (λ e. no_back f.seen.grows.more v.seen.front (sym f.seen.grows.goes_on ∙ sym e) ∙ e) near k.longest;
          slot = slot_on book.log book.turns book.holder s.homes s.views (set vs other spent)
              (λ h. turn_set vs other w spent at' book.holder (λ is. absurd (not_outside (sym outside' ∙ is))) (turn_set s.views id v both at book.holder (λ is. absurd (not_outside (sym outside ∙ is))) h)) k.slot;
        },
      )
    where
      -- the front of the seat that was taken in is what the other one was told
      seen_two : (log : Front E) (views : List (View E)) → get_elem? views id ≡ some v → get_elem? (set views id (told_of v w)) other ≡ some w → get_elem? views other ≡ some w → ([] ≡ log → v.seen.front ≡ log) → id ≢ other
          → IsSeen log views → IsSeen log (set (set views id (told_of v w)) other spent)
      seen_two log views at at' was of_none near (j, d, e, here) = let both : View E = told_of v w in
          let now : get_elem? (set (set views id both) other spent) id ≡ some both = set_else (set views id both) other id spent near ∙ set_here views id both (there views id v at) in
          let by_v : (v.seen.front ≡ log) ⊎ (v.told.front ≡ log) → IsSeen log (set (set views id both) other spent) = λ h.
          (id, both, now, inl (⊎_elim (λ (t : v.seen.front ≡ log). t) (λ (t : v.told.front ≡ log). of_none (sym (ap (λ (x : Sight E). x.front) untold) ∙ t)) h)) in
          let by_w : (w.seen.front ≡ log) ⊎ (w.told.front ≡ log) → IsSeen log (set (set views id both) other spent) = λ h.
          (id, both, now, ⊎_elim (λ (t : w.seen.front ≡ log). inr t) (λ (t : w.told.front ≡ log). inl (of_none (sym (ap (λ (x : Sight E). x.front) untold') ∙ t))) h) in
          dite (ℕ_discrete j id)
          (λ (same : j ≡ id). by_v (subst (λ (x : View E). (x.seen.front ≡ log) ⊎ (x.told.front ≡ log)) (same_at views id d v (subst (λ (i : ℕ). get_elem? views i ≡ some d) same e) at) here))
          (λ (ne : j ≢ id). dite (ℕ_discrete j other)
          (λ (same : j ≡ other). by_w (subst (λ (x : View E). (x.seen.front ≡ log) ⊎ (x.told.front ≡ log)) (same_at views other d w (subst (λ (i : ℕ). get_elem? views i ≡ some d) same e) was) here))
          (λ (ne' : j ≢ other). (j, d, set_else (set views id both) other j spent ne' ∙ (set_else views id j both ne ∙ e), here)))

  -- the numbers that a view was told are cut off for a new seat
  pub cuts : (id : ℕ) (v : View E) → v.stage ≡ Outside → v.told.front ≡ [] → Splits Rule id v (kept v) (cut v)
  cuts id v outside empty s r at = let book : Book E = r.0 in let k = r.2 in let n : ℕ = book.count in let ns : List ℕ = v.told.numbers in let owner : ℕ → ℕ = hand_over book.owner ns n in
      let vs : List (View E) = set s.views id (kept v) in let book' : Book E = record book { owner = owner; count = n + 1 } in let f = k.each_view id v at in
      let none_told : own ns book.log ≡ [] = ap (own ns) (subst (λ (z : Front E). book.log ≡ f.told.grows.more ++ z) empty f.told.grows.goes_on ∙ append-nil f.told.grows.more) ∙ f.told.grows.of_others in
      let none_more : own ns f.seen.grows.more ≡ [] = (own_append_none ns f.seen.grows.more v.seen.front (ap (own ns) (sym f.seen.grows.goes_on) ∙ none_told)).0 in
      let on : (j : ℕ) (seen : Sight E) → ((m : ℕ) → among seen.numbers m ≡ true → among ns m ≡ false) → Sees book.log book.owner n j seen → Sees book.log owner (n + 1) j seen = λ j seen far sees.
      sees_on book.log book.owner owner n (n + 1) j seen sees (λ m e. (not_handed book.owner ns n m (far m e), omega arith)) in
      let others : (j : ℕ) (seen : Sight E) → j ≢ id → Sees book.log book.owner n j seen → Sees book.log owner (n + 1) j seen = λ j seen ne sees.
      on j seen (λ m e. not_among book.log book.owner n id v.told m f.told (λ o. ne (sym (sees.owned m e).0 ∙ o))) sees in
      let long : length vs ≡ n = length-set s.views id (kept v) ∙ k.counted in (
        book',
        r.1,
        record {
          counted = length-append vs (cut v ∷ []) ∙ ap (λ (x : ℕ). x + 1) long;
          each_view = add_each (Fits book') vs (cut v)
              (subst (λ (j : ℕ). Fits book' j (cut v)) (sym long) record {
                seen = record { grows = record { more = f.seen.grows.more; goes_on = f.seen.grows.goes_on; of_others = none_more }; owned = λ m e. (handed book.owner ns n m e, (let below = (f.told.owned m e).1 in omega (arith, below))) };
                told = sees_nothing book.log owner (n + 1) n;
                apart = none_apart ns;
                stage = tt;
              })
              (set_each (Fits book') s.views id (kept v)
              record { seen = on id v.seen f.apart f.seen; told = sees_nothing book.log owner (n + 1) id; apart = none_apart v.seen.numbers; stage = tt }
              (λ j d ne e. let h = k.each_view j d e in record { seen = others j d.seen ne h.seen; told = others j d.told ne h.told; apart = h.apart; stage = h.stage }));
          each_entry = All-weaker (λ (entry : Entry E). entry.seat < n) (λ (entry : Entry E). entry.seat < n + 1) (λ entry below. omega (arith, below)) book.log k.each_entry;
          longest = seen_more vs (cut v) book.log (seen_set s.views id v (kept v) at book.log (λ e. ⊎_elim (λ (t : v.seen.front ≡ book.log). inl t) (λ (t : v.told.front ≡ book.log). inr (sym empty ∙ t)) e) k.longest);
          slot = slot_on book.log book.turns book.holder s.homes s.views (vs ++ cut v ∷ [])
              (λ h. turn_more vs (cut v) book.holder (turn_set s.views id v (kept v) at book.holder (λ is. absurd (not_outside (sym outside ∙ is))) h)) k.slot;
        },
      )

  -- the table at the start
  pub starts : (state : S) → stands [] state → Rule (opening (0 ∷ []) (Some state ∷ []) (newcomer 0))
  starts state for_none =
      let book : Book E = record { log = []; turns = 0; holder = 0; owner = λ n. 0; count = 1 } in (
        book,
        refl,
        record {
          counted = refl;
          each_view = λ j d e. ⊎_elim (λ (t : get_elem? [] j ≡ some d). absurd (some-ne-none d (sym t)))
              (λ (t : (j ≡ 0) × (newcomer 0 ≡ d)). subst (λ (x : ℕ × View E). Fits book x.0 x.1) (λ i. (sym t.0 i, t.1 i)) record {
                seen = record { grows = grows_from_itself (0 ∷ []) []; owned = λ n e. (refl, (let same = among_one 0 n e in omega (arith, same))) };
                told = sees_nothing [] (λ n. 0) 1 0;
                apart = none_apart (0 ∷ []);
                stage = tt;
              })
              (at_end [] (newcomer 0) d j e);
          each_entry = All-nil (λ (entry : Entry E). entry.seat < 1);
          longest = (0, newcomer 0, refl, inl refl);
          slot = record { free = λ _. (state, refl, for_none); taken = λ odd. absurd (not_both 0 refl odd) };
        },
      )
