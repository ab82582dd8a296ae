-- Batches of frames: what they enter and put out, frame by frame, and turn by turn.
use Rattle.std.proofs.Common.{◌≡◌, ℕ, zero, suc, ◌+◌, ◌≤◌, List, [], ◌∷◌, ◌++◌, length, filter, take, drop, true, false, cond, not, add-one, eq-eqb, true≢false, refl, sym, ap, subst, ◌∙◌, append_assoc, append-nil, length-append, length-drop, arith}
use Rattle.std.proofs.lemmas.List.{map-append}
use Rattle.std.proofs.lemmas.List.Elements.{filter-append}
use Rattle.nine.proofs.StreamLaws.{frame_then}
use Rattle.turn_lock.specs.Fronts.{Front, among, events, made}
use Rattle.turn_lock.specs.Seats.{front, numbers, Turned}
use Rattle.turn_lock.proofs.FrontLaws.{made_events}
use Rattle.agent_history.specs.declared.event.Event.{Event}
use Rattle.agent_history.specs.declared.event.Event.TheVariants.{Request, Take}
use Rattle.agent_history.specs.Histories.{History, answer, is_reply}
use Rattle.agent_core.specs.declared.agent.Agent.{Agent}
use Rattle.agent_core.specs.Agents.{StandsFor}
use Rattle.agent_core.specs.declared.served.Served.{Served}
use Rattle.agent_core.specs.Serves.{AllGave, TookSo, takes, took}
use Rattle.agent_hub.specs.declared.exchange.Exchanged.{Exchanged}
use Rattle.agent_hub.specs.declared.exchange.TakesEnd.{TakesEnd}
use Rattle.agent_hub.specs.declared.exchange.TakesEnd.TheVariants.{NoneLeft, Stopped, Left}
use Rattle.agent_hub.specs.Submits.{HubSeat}
use Rattle.agent_hub.specs.Entries.{Adds, Entered, entered_by, events_in, in_turn, text_of}
use Rattle.agent_hub.specs.Requesting.{Drawn, frames_in, frames_of, most_frame, requests, words_of}
use Rattle.agent_hub.specs.Exchanging.{Converses, Collects, CutsOff, EndsBy, EntersAll, GoesOn, Handled, Handles, IsCollected, IsExchanged, Puts, Serves, ServesOne, Serving, TakesEndSo, TakesSome, Taking, TookOne, batch_events, drawn_in, events_for, handled_behind, handled_for, is_take, taken_of, without_takes}
use Rattle.agent_hub.proofs.EntryLemmas.{adds_none}
use Rattle.agent_hub.proofs.FrontFacts.{entered_behind, entered_made}

-- ---- events without takes

takes_left_out : (n conn : ℕ) (more : List Event) → without_takes conn (takes n conn ++ more) ≡ without_takes conn more
takes_left_out zero conn more = refl
takes_left_out (suc n) conn more = let rest = without_takes conn (takes n conn ++ more) in
    ap (λ b. cond (not b) (Take conn ∷ rest) rest) (eq-eqb conn conn refl) ∙ takes_left_out n conn more

asks_for : (conn : ℕ) (some : List Handled) → without_takes conn (events_for conn some) ≡ requests conn (drawn_in some)
asks_for conn [] = refl
asks_for conn (h ∷ older) = takes_left_out h.taken conn (Request conn h.drawn.frame h.drawn.word ∷ events_for conn older)
    ∙ ap (λ (l : List Event). Request conn h.drawn.frame h.drawn.word ∷ l) (asks_for conn older)

-- ---- what takes give

takes_give : (n conn : ℕ) (H : History) (done : List Event) → text_of (in_turn H (takes n conn ++ done)) ≡ text_of (in_turn H done) ++ took n conn (done ++ H)
takes_give zero conn H done = sym (append-nil (text_of (in_turn H done)))
takes_give (suc n) conn H done = let given = text_of (in_turn H done) in let some = took n conn (done ++ H) in
    ap (λ (t : List ℕ). t ++ (answer ((takes n conn ++ done) ++ H) (Take conn)).1) (takes_give n conn H done)
    ∙ ap (λ (h : History). (given ++ some) ++ (answer h (Take conn)).1) (append_assoc (takes n conn) done H)
    ∙ append_assoc given some (answer (takes n conn ++ (done ++ H)) (Take conn)).1

frame_gives : (n conn : ℕ) (frame word : List ℕ) (H : History) (done : List Event) → text_of (in_turn H (takes n conn ++ Request conn frame word ∷ done)) ≡ text_of (in_turn H done) ++ took n conn (Request conn frame word ∷ (done ++ H))
frame_gives n conn frame word H done = takes_give n conn H (Request conn frame word ∷ done)
    ∙ ap (λ (t : List ℕ). t ++ took n conn (Request conn frame word ∷ (done ++ H))) (append-nil (text_of (in_turn H done)))

pub takes_alone : (n conn : ℕ) (H : History) → text_of (in_turn H (takes n conn)) ≡ took n conn H
takes_alone n conn H = ap (λ (l : List Event). text_of (in_turn H l)) (sym (append-nil (takes n conn))) ∙ takes_give n conn H []

takes_are_none : (n conn : ℕ) → without_takes conn (takes n conn) ≡ []
takes_are_none n conn = ap (without_takes conn) (sym (append-nil (takes n conn))) ∙ takes_left_out n conn []

-- ---- frames that were handled

handled_more : (before some : List Handled) (taken : List ℕ) (frames words : List (List ℕ))
    → handled_behind before (taken_of some ++ taken) (frames_of (drawn_in some) ++ frames) (words_of (drawn_in some) ++ words) ≡ handled_behind (some ++ before) taken frames words
handled_more before [] taken frames words = refl
handled_more before (h ∷ older) taken frames words =
    (λ i. handled_behind before (append_assoc (taken_of older) (h.taken ∷ []) taken i) (append_assoc (frames_of (drawn_in older)) (h.drawn.frame ∷ []) frames i) (append_assoc (words_of (drawn_in older)) (h.drawn.word ∷ []) words i))
    ∙ handled_more before older (h.taken ∷ taken) (h.drawn.frame ∷ frames) (h.drawn.word ∷ words)

handled_all : (some : List Handled) (frames words : List (List ℕ)) → handled_behind [] (taken_of some) (frames_of (drawn_in some) ++ frames) (words_of (drawn_in some) ++ words) ≡ some
handled_all some frames words = ap (λ (l : List ℕ). handled_behind [] l (frames_of (drawn_in some) ++ frames) (words_of (drawn_in some) ++ words)) (sym (append-nil (taken_of some)))
    ∙ handled_more [] some [] frames words ∙ append-nil some

frames_counted : (some : List Handled) → length (frames_of (drawn_in some)) ≡ length (taken_of some)
frames_counted [] = refl
frames_counted (h ∷ older) = let same = frames_counted older in
    omega (arith, same, length-append (frames_of (drawn_in older)) (h.drawn.frame ∷ []), length-append (taken_of older) (h.taken ∷ []))

words_counted : (some : List Handled) → length (words_of (drawn_in some)) ≡ length (taken_of some)
words_counted [] = refl
words_counted (h ∷ older) = let same = words_counted older in
    omega (arith, same, length-append (words_of (drawn_in older)) (h.drawn.word ∷ []), length-append (taken_of older) (h.taken ∷ []))

-- ---- frame by frame

module _ (H : History) (conn : ℕ) (frames words : List (List ℕ)) (old : List ℕ) where
  pub serving_begun : (bytes : List ℕ) (taken : List ℕ) (agent : Agent) → frames ≡ frames_in bytes → taken ≡ [] → StandsFor H agent → Serving H conn frames words bytes 0 taken Left old old agent
  serving_begun bytes taken agent are none stands = record { some = []; counts = none; frames_parts = are; words_parts = refl; stands = stands; out = sym (append-nil old); ends = tt }

  pub serving_more : (rest behind frame word : List ℕ) (index : ℕ) (some more : List ℕ) (end end' : TakesEnd) (mid new : List ℕ) (agent agent' : Agent) → Serving H conn frames words rest index some end old mid agent
      → CutsOff rest frame behind → drop index words ≡ word ∷ drop (index + 1) words → ((done : History) → StandsFor done agent → ServesOne done conn frame word end' some more mid new agent')
      → Serving H conn frames words behind (index + 1) more end' old new agent'
  serving_more rest behind frame word index some more end end' mid new agent agent' s cut at one =
      let before = events_for conn s.some in
      let o = one (before ++ H) s.stands in
      let same = append_assoc (takes o.taken conn) (Request conn frame word ∷ before) H in
      let given = took o.taken conn (Request conn frame word ∷ (before ++ H)) in
      record {
        some = handled_for frame word o.taken ∷ s.some;
        counts = o.counts ∙ ap (λ (l : List ℕ). l ++ o.taken ∷ []) s.counts;
        frames_parts = s.frames_parts ∙ ap (λ (l : List (List ℕ)). frames_of (drawn_in s.some) ++ l) (ap frames_in cut.parts ∙ frame_then most_frame frame behind cut.within)
            ∙ sym (append_assoc (frames_of (drawn_in s.some)) (frame ∷ []) (frames_in behind));
        words_parts = s.words_parts ∙ ap (λ (l : List (List ℕ)). words_of (drawn_in s.some) ++ l) at ∙ sym (append_assoc (words_of (drawn_in s.some)) (word ∷ []) (drop (index + 1) words));
        stands = subst (λ (l : History). StandsFor l agent') (sym same) o.stands;
        out = o.out ∙ ap (λ (t : List ℕ). t ++ given) s.out ∙ append_assoc old (text_of (in_turn H before)) given ∙ ap (λ (t : List ℕ). old ++ t) (sym (frame_gives o.taken conn frame word H before));
        ends = subst (λ (l : History). TakesEndSo end' conn l) (sym same) o.ends;
      }

  served : (rest : List ℕ) (index : ℕ) (taken : List ℕ) (end last : TakesEnd) (new : List ℕ) (agent : Agent) → (s : Serving H conn frames words rest index taken end old new agent)
      → EntersAll last (length taken) (length words) → TakesEndSo last conn (events_for conn s.some ++ H) → Serves H conn frames words taken last old new agent
  served rest index taken end last new agent s all ends =
      let are : handled_behind [] taken frames words ≡ s.some = (λ i. handled_behind [] (s.counts i) (s.frames_parts i) (s.words_parts i)) ∙ handled_all s.some (frames_in rest) (drop index words) in
      record {
        stands = subst (λ (l : List Handled). StandsFor (events_for conn l ++ H) agent) (sym are) s.stands;
        handles = record {
          some = s.some;
          are = are;
          counts = s.counts;
          frames_left = frames_in rest;
          frames_parts = s.frames_parts;
          words_left = drop index words;
          words_parts = s.words_parts;
          out = s.out;
          all = all;
          ends = ends;
        };
      }

  -- memory or frames were short
  pub served_some : (rest : List ℕ) (index : ℕ) (taken : List ℕ) (end : TakesEnd) (new : List ℕ) (agent : Agent) → Serving H conn frames words rest index taken end old new agent → Serves H conn frames words taken Left old new agent
  served_some rest index taken end new agent s = served rest index taken end Left new agent s
      (omega (arith, ap length s.words_parts, ap length s.counts, length-append (words_of (drawn_in s.some)) (drop index words), words_counted s.some)) tt

  -- memory was short for a frame
  pub served_before : (rest : List ℕ) (index : ℕ) (some more : List ℕ) (end : TakesEnd) (mid new : List ℕ) (agent agent' : Agent) → Serving H conn frames words rest index some end old mid agent
      → ((done : History) → StandsFor done agent → StandsFor done agent') → new ≡ mid → more ≡ some → Serves H conn frames words more Left old new agent'
  served_before rest index some more end mid new agent agent' s stands same none =
      served_some rest index more end new agent' record { some = s.some; counts = none ∙ s.counts; frames_parts = s.frames_parts; words_parts = s.words_parts; stands = stands (events_for conn s.some ++ H) s.stands; out = same ∙ s.out; ends = s.ends }

  enters_all : (end : TakesEnd) (entered count : ℕ) → entered ≡ count → EntersAll end entered count
  enters_all NoneLeft entered count e = e
  enters_all Stopped entered count e = e
  enters_all Left entered count e = omega (arith, e)

  pub served_all : (rest : List ℕ) (index : ℕ) (taken : List ℕ) (end : TakesEnd) (new : List ℕ) (agent : Agent) → length words ≤ index → Serving H conn frames words rest index taken end old new agent → Serves H conn frames words taken end old new agent
  served_all rest index taken end new agent all s = served rest index taken end end new agent s
      (enters_all end (length taken) (length words)
      (omega (arith, all, ap length s.words_parts, ap length s.counts, length-append (words_of (drawn_in s.some)) (drop index words), length-drop index words, words_counted s.some)))
      s.ends

-- ---- take by take

first_gave : (n conn : ℕ) (H : History) → AllGave (suc n) conn H → is_reply (answer H (Take conn)).0 ≡ true
first_gave zero conn H gave = gave.1
first_gave (suc n) conn H gave = first_gave n conn H gave.0

-- where no reply is left none was taken
pub none_taken : (H : History) (conn : ℕ) (served : Served) (end : TakesEnd) (old new : List ℕ) (agent : Agent) → is_reply (answer H (Take conn)).0 ≡ false → TookSo H conn served old new agent → EndsBy served.end end → TakesSome H conn 0 end old new agent
none_taken H conn served end old new agent none t by = go served.taken t.stands t.gave t.out (by conn (takes served.taken conn ++ H) t.ends)
  where
    go : (n : ℕ) → StandsFor (takes n conn ++ H) agent → AllGave n conn H → new ≡ old ++ took n conn H → TakesEndSo end conn (takes n conn ++ H) → TakesSome H conn 0 end old new agent
    go zero stands gave out ends = record { stands = stands; collects = record { out = out; ends = ends } }
    go (suc n) stands gave out ends = absurd (true≢false (sym (first_gave n conn H gave) ∙ none))

module _ (H : History) (conn : ℕ) (old : List ℕ) where
  pub taking_none : (agent : Agent) → StandsFor H agent → Taking H conn 0 old old agent
  taking_none agent stands = record { stands = stands; out = sym (append-nil old) }

  pub taking_more : (n : ℕ) (mid new : List ℕ) (agent agent' : Agent) → Taking H conn n old mid agent → ((done : History) → StandsFor done agent → TookOne done conn mid new agent') → Taking H conn (n + 1) old new agent'
  taking_more n mid new agent agent' t one =
      let o = one (takes n conn ++ H) t.stands in
      let given = (answer (takes n conn ++ H) (Take conn)).1 in
      subst (λ (k : ℕ). Taking H conn k old new agent') (sym (add-one n)) record {
        stands = o.stands;
        out = o.out ∙ ap (λ (l : List ℕ). l ++ given) t.out ∙ append_assoc old (text_of (in_turn H (takes n conn))) given;
      }

  -- memory was short
  pub taking_still : (n : ℕ) (mid new : List ℕ) (agent agent' : Agent) → Taking H conn n old mid agent → ((done : History) → StandsFor done agent → StandsFor done agent') → new ≡ mid → TakesSome H conn n Left old new agent'
  taking_still n mid new agent agent' t stands same = record { stands = stands (takes n conn ++ H) t.stands; collects = record { out = same ∙ t.out; ends = tt } }

  pub some_taken : (n : ℕ) (new : List ℕ) (agent : Agent) → Taking H conn n old new agent → TakesSome H conn n Left old new agent
  some_taken n new agent t = record { stands = t.stands; collects = record { out = t.out; ends = tt } }

  pub all_taken : (n : ℕ) (end : TakesEnd) (mid new : List ℕ) (agent agent' : Agent) → Taking H conn n old mid agent → ((done : History) → StandsFor done agent → TakesSome done conn 0 end mid new agent') → TakesSome H conn n end old new agent'
  all_taken n end mid new agent agent' t last =
      let l = last (takes n conn ++ H) t.stands in
      record { stands = l.stands; collects = record { out = l.collects.out ∙ append-nil mid ∙ t.out; ends = l.collects.ends } }

-- ---- one turn of a seat

events_in_turn : (H : History) (done : List Event) → events_in (in_turn H done) ≡ done
events_in_turn H [] = refl
events_in_turn H (event ∷ done) = ap (λ (l : List Event). event ∷ l) (events_in_turn H done)

module _ (done : List Event) (gives : History → Type 0) (before after : HubSeat) (n : ℕ) (is_mine : among (numbers before) n ≡ true) (t : Turned done gives before after) where
  abbrev behind_others : History
  behind_others = events (t.others ++ front before)

  abbrev mine_now : List Entered
  mine_now = in_turn behind_others done

  adds_turn : Adds mine_now before after
  adds_turn = let ns = numbers before in record {
    more = made ns done ++ t.others;
    goes_on = t.adds ∙ sym (append_assoc (made ns done) t.others (front before));
    same_numbers = t.same_numbers;
    own_entries = ap (entered_by ns) t.adds ∙ entered_made ns done (t.others ++ front before) n is_mine ∙ ap (λ (l : List Entered). mine_now ++ l) (entered_behind ns t.others (front before) t.of_others);
  }

  puts : (old new : List ℕ) → new ≡ old ++ text_of mine_now → Puts mine_now old new before after
  unfolding adds_turn
  puts old new out = record {
    others = t.others;
    goes_on = t.adds ∙ ap (λ (l : List Event). made (numbers before) l ++ (t.others ++ front before)) (sym (events_in_turn behind_others done));
    of_others = t.of_others;
    added = adds_turn;
    out = out;
  }

  events_now : events (front after) ≡ done ++ behind_others
  events_now = ap events t.adds ∙ made_events (numbers before) done (t.others ++ front before)

take_front : {A : Type 0} (xs ys : List A) → take (length xs) (xs ++ ys) ≡ xs
take_front [] ys = refl
take_front {A} (x ∷ xs) ys = ap (λ (l : List A). x ∷ l) (take_front xs ys)

first_ones : {A : Type 0} (n : ℕ) (all xs ys : List A) → all ≡ xs ++ ys → length xs ≡ n → xs ≡ take n all
first_ones {A} n all xs ys are long = sym (subst (λ (k : ℕ). take k all ≡ xs) long (ap (take (length xs)) are ∙ take_front xs ys))

pub exchanged : (conn : ℕ) (frames words : List (List ℕ)) (came : Exchanged) (taken : List ℕ) (end : TakesEnd) (old new : List ℕ) (before after : HubSeat) (n : ℕ) → among (numbers before) n ≡ true → came.entered ≡ length taken → came.end ≡ end
    → Turned (batch_events conn taken frames words) (λ history. Handles history conn frames words taken end old new) before after → IsExchanged conn frames words came old new before after
exchanged conn frames words came taken end old new before after n is_mine counted last t =
    let done = batch_events conn taken frames words in
    let gives : History → Type 0 = λ history. Handles history conn frames words taken end old new in
    let H = behind_others done gives before after n is_mine t in
    let h = t.answers in
    let is : done ≡ events_for conn h.some = ap (events_for conn) h.are in
    let long : length (frames_of (drawn_in h.some)) ≡ came.entered = frames_counted h.some ∙ ap length (sym h.counts) ∙ sym counted in
    record {
      mine = in_turn H done;
      puts = puts done gives before after n is_mine t old new (h.out ∙ ap (λ (l : List Event). old ++ text_of (in_turn H l)) (sym is));
      drawn = drawn_in h.some;
      frames_are = first_ones came.entered frames (frames_of (drawn_in h.some)) h.frames_left h.frames_parts long;
      words_are = first_ones came.entered words (words_of (drawn_in h.some)) h.words_left h.words_parts (words_counted h.some ∙ ap length (sym h.counts) ∙ sym counted);
      there = omega (arith, long, ap length h.frames_parts, length-append (frames_of (drawn_in h.some)) h.frames_left);
      all = subst (λ (x : ℕ × TakesEnd). EntersAll x.1 x.0 (length words)) (λ i. (sym counted i, sym last i)) h.all;
      asks = ap (without_takes conn) (events_in_turn H done ∙ is) ∙ asks_for conn h.some;
      ends = subst (λ (x : TakesEnd × History). TakesEndSo x.0 conn x.1) (λ i. (sym last i, (ap (λ (l : List Event). l ++ H) (sym is) ∙ sym (events_now done gives before after n is_mine t)) i)) h.ends;
    }

pub collected : (conn taken : ℕ) (end : TakesEnd) (old new : List ℕ) (before after : HubSeat) (n : ℕ) → among (numbers before) n ≡ true → Turned (takes taken conn) (λ history. Collects history conn taken end old new) before after
    → IsCollected conn end old new before after
collected conn taken end old new before after n is_mine t =
    let done = takes taken conn in
    let gives : History → Type 0 = λ history. Collects history conn taken end old new in
    let H = behind_others done gives before after n is_mine t in
    record {
      mine = in_turn H done;
      puts = puts done gives before after n is_mine t old new t.answers.out;
      asks = ap (without_takes conn) (events_in_turn H done) ∙ takes_are_none taken conn;
      ends = subst (λ (l : History). TakesEndSo end conn l) (sym (events_now done gives before after n is_mine t)) t.answers.ends;
    }

-- ---- turn by turn

pub adds_more : (older mine : List Entered) (first before after : HubSeat) → Adds older first before → Adds mine before after → Adds (mine ++ older) first after
adds_more older mine first before after o m = record {
  more = m.more ++ o.more;
  goes_on = m.goes_on ∙ ap (λ (f : Front Event). m.more ++ f) o.goes_on ∙ sym (append_assoc m.more o.more (front first));
  same_numbers = m.same_numbers ∙ o.same_numbers;
  own_entries = subst (λ (ns : List ℕ). entered_by ns (front after) ≡ mine ++ entered_by ns (front before)) o.same_numbers m.own_entries
      ∙ ap (λ (l : List Entered). mine ++ l) o.own_entries ∙ sym (append_assoc mine older (entered_by (numbers first) (front first)));
}

text_behind : (mine older : List Entered) → text_of (mine ++ older) ≡ text_of older ++ text_of mine
text_behind [] older = sym (append-nil (text_of older))
text_behind (e ∷ mine) older = ap (λ (t : List ℕ). t ++ (answer e.before e.event).1) (text_behind mine older) ∙ append_assoc (text_of older) (text_of mine) (answer e.before e.event).1

asked_behind : (conn : ℕ) (mine older : List Entered) → without_takes conn (events_in (mine ++ older)) ≡ without_takes conn (events_in mine) ++ without_takes conn (events_in older)
asked_behind conn mine older = ap (without_takes conn) (map-append (λ (e : Entered). e.event) mine older) ∙ filter-append (λ (event : Event). not (is_take conn event)) (events_in mine) (events_in older)

pub converses_none : (conn : ℕ) (seat : HubSeat) → Converses conn [] [] seat seat
converses_none conn seat = record { mine = []; added = adds_none seat; asks = refl; gave = refl }

goes_on : (conn : ℕ) (drawn more : List Drawn) (text : List ℕ) (mine : List Entered) (old new : List ℕ) (first before after : HubSeat) → Converses conn drawn text first before → Puts mine old new before after
    → without_takes conn (events_in mine) ≡ requests conn more → GoesOn conn (more ++ drawn) text old new first after
goes_on conn drawn more text mine old new first before after c p asks = record {
  given = text_of mine;
  out = p.out;
  converses = record {
    mine = mine ++ c.mine;
    added = adds_more c.mine mine first before after c.added p.added;
    asks = asked_behind conn mine c.mine ∙ (λ i. asks i ++ c.asks i) ∙ sym (map-append (λ (d : Drawn). Request conn d.frame d.word) more drawn);
    gave = text_behind mine c.mine ∙ ap (λ (t : List ℕ). t ++ text_of mine) c.gave;
  };
}

-- a batch more, and takes more
pub exchanged_more : (conn : ℕ) (drawn : List Drawn) (text : List ℕ) (frames words : List (List ℕ)) (came : Exchanged) (old new : List ℕ) (first before after : HubSeat) → Converses conn drawn text first before
    → (x : IsExchanged conn frames words came old new before after) → GoesOn conn (x.drawn ++ drawn) text old new first after
exchanged_more conn drawn text frames words came old new first before after c x = goes_on conn drawn x.drawn text x.mine old new first before after c x.puts x.asks

pub collected_more : (conn : ℕ) (drawn : List Drawn) (text : List ℕ) (end : TakesEnd) (old new : List ℕ) (first before after : HubSeat) → Converses conn drawn text first before
    → IsCollected conn end old new before after → GoesOn conn drawn text old new first after
collected_more conn drawn text end old new first before after c x = goes_on conn drawn [] text x.mine old new first before after c x.puts x.asks
