-- Conversations end, and their questions are withdrawn first: who waits then, and which they are.
use Rattle.std.proofs.Common.{◌≡◌, ◌≤◌, ◌&&◌, ℕ, List, [], ◌∷◌, Bool, true, false, map, filter, not, cond, eqb, Option, refl, sym, ap, subst, ◌∙◌, arith, ◌||◌}
use Rattle.std.proofs.lemmas.Bool.{eqb-true, false≢true}
use Rattle.side_files.specs.declared.line.PromptKind.{PromptKind}
use Rattle.side_files.specs.declared.line.PromptKind.TheVariants as k
use Rattle.side_files.specs.Calls as side
use Rattle.talks.specs.Calls.{Call}
use Rattle.talks.specs.Standings.{standing}
use Rattle.conversations.specs.Asking.{asked_kind}
use Rattle.agent_history.specs.Deeds.{Clunked, Deed, Hung, OfConnection, OfFids, OfPrompts, Versioned}
use Rattle.agent_history.specs.Conversations.{Speaker, all_withdrawn, ended_by, speakers, talk}
use Rattle.agent_history.specs.SideFiles.{askers, prompts_of}
use Rattle.agent_talks.specs.declared.speaker.Speaker.{Speaker as HeldSpeaker}
use Rattle.agent_talks.specs.declared.speaker.Leaving.{Leaving}
use Rattle.agent_talks.specs.declared.speaker.Leaving.TheVariants as l
use Rattle.agent_talks.specs.Kept.{leaves, speaker_of}
use Rattle.agent_talks.specs.Speaks.{is_among, stands}
use Rattle.agent_talks.proofs.StandLemmas.{Apart, are_numbered, left_among, other_way, same}
use Rattle.agent_talks.specs.Keeps.{Converses}
use Rattle.agent_talks.specs.Keeps.{KeepingTalks}
use Rattle.agent_talks.proofs.OtherCalls.{prompts_converses}
use Rattle.agent_talks.specs.declared.files.LineFiles.{LineFiles}
use Rattle.agent_talks.specs.Files.{Files}
use Rattle.agent_talks.specs.Asking.{AskingTalks}
use Rattle.agent_talks.specs.Asking.{AllWait, Tells, Waits, convs_leaving, ended, is_asker, times}
use Rattle.agent_talks.proofs.ShutLemmas.{withdrawn_left}
use Rattle.agent_talks.proofs.TimesLemmas.{has, more_has, withdrawn_fewer}

-- ---- the conversations that end are those of who leaves

-- of each of some speakers this tells whether he stays
abbrev Matches : (Speaker → Bool) → (ℕ → Bool) → List Speaker → Type 0
Matches keep stays [] = Unit {0}
Matches keep stays (s ∷ xs) = (stays s.conv ≡ keep s) × Matches keep stays xs

matches_more : (keep : Speaker → Bool) (stays still : ℕ → Bool) (n : ℕ) → ((q : ℕ) → eqb n q ≡ false → still q ≡ stays q) → (xs : List Speaker) → is_among xs n ≡ false → Matches keep stays xs → Matches keep still xs
matches_more keep stays still n alike [] off m = tt
matches_more keep stays still n alike (s ∷ xs) off m = here (eqb s.conv n) refl off (λ none. matches_more keep stays still n alike xs none m.1)
  where
    here : (b : Bool) → eqb s.conv n ≡ b → (b || is_among xs n) ≡ false → (is_among xs n ≡ false → Matches keep still xs) → Matches keep still (s ∷ xs)
    here true e none more = absurd (false≢true (sym none))
    here false e none more = (alike s.conv (other_way s.conv n e) ∙ m.0, more none)

stay_matches : (keep : Speaker → Bool) (xs : List Speaker) → Apart xs → Matches keep (λ q. is_among (filter keep xs) q) xs
stay_matches keep [] apart = tt
stay_matches keep (s ∷ xs) apart =
    (self (keep s), matches_more keep (λ q. is_among (filter keep xs) q) (λ q. is_among (filter keep (s ∷ xs)) q) s.conv (λ q off. elsewhere (keep s) q off) xs apart.0 (stay_matches keep xs apart.1))
  where
    self : (k : Bool) → is_among (cond k (s ∷ filter keep xs) (filter keep xs)) s.conv ≡ k
    self true = rw (same s.conv) refl
    self false = left_among keep xs s.conv apart.0

    elsewhere : (k : Bool) (q : ℕ) → eqb s.conv q ≡ false → is_among (cond k (s ∷ filter keep xs) (filter keep xs)) q ≡ is_among (filter keep xs) q
    elsewhere true q off = rw off refl
    elsewhere false q off = refl

gone_alike : (keep : Speaker → Bool) (stays : ℕ → Bool) (xs : List Speaker) → Matches keep stays xs → filter (λ s. not (keep s)) xs ≡ filter (λ s. not (stays s.conv)) xs
gone_alike keep stays [] m = refl
gone_alike keep stays (s ∷ xs) m =
    ap (λ (b : Bool). cond (not b) (s ∷ filter (λ t. not (keep t)) xs) (filter (λ t. not (keep t)) xs)) (sym m.0)
    ∙ ap (λ (ys : List Speaker). cond (not (stays s.conv)) (s ∷ ys) ys) (gone_alike keep stays xs m.1)

leaving_gone : (who : Leaving) (keep : Speaker → Bool) → ((s : HeldSpeaker) → keep (speaker_of s) ≡ not (leaves who s)) → (xs : List HeldSpeaker) → convs_leaving who xs ≡ map (λ s. s.conv) (filter (λ s. not (keep s)) (map speaker_of xs))
leaving_gone who keep every [] = refl
leaving_gone who keep every (s ∷ xs) = step (leaves who s) (keep (speaker_of s)) (every s) (leaving_gone who keep every xs)
  where
    step : (b k : Bool) → k ≡ not b → convs_leaving who xs ≡ map (λ s. s.conv) (filter (λ s. not (keep s)) (map speaker_of xs))
        → map (λ s. s.conv) (cond b (s ∷ filter (λ s. leaves who s) xs) (filter (λ s. leaves who s) xs)) ≡ map (λ s. s.conv) (cond (not k) (speaker_of s ∷ filter (λ s. not (keep s)) (map speaker_of xs)) (filter (λ s. not (keep s)) (map speaker_of xs)))
    step true k e more = rw e (ap (λ (ns : List ℕ). s.conv ∷ ns) more)
    step false k e more = rw e more

ending : (done : List Deed) (deed : Deed) (who : Leaving) (keep : Speaker → Bool) → ((s : HeldSpeaker) → keep (speaker_of s) ≡ not (leaves who s)) → ((q : ℕ) → stands (deed ∷ done) q ≡ is_among (filter keep (speakers done)) q)
    → (xs : List HeldSpeaker) → map speaker_of xs ≡ speakers done → convs_leaving who xs ≡ ended_by deed done
ending done deed who keep every stay xs e =
    leaving_gone who keep every xs
    ∙ (ap (λ (ss : List Speaker). map (λ (s : Speaker). s.conv) (filter (λ (s : Speaker). not (keep s)) ss)) e
    ∙ ap (map (λ (s : Speaker). s.conv)) (gone_alike keep (λ q. stands (deed ∷ done) q) (speakers done) (all_match (speakers done) (stay_matches keep (speakers done) (are_numbered done).apart))))
  where
    all_match : (ss : List Speaker) → Matches keep (λ q. is_among (filter keep (speakers done)) q) ss → Matches keep (λ q. stands (deed ∷ done) q) ss
    all_match [] m = tt
    all_match (s ∷ ss) m = (stay s.conv ∙ m.0, all_match ss m.1)

-- ---- questions are withdrawn

withdrawn_speakers : (convs : List ℕ) (done : List Deed) → speakers (all_withdrawn convs done) ≡ speakers done
withdrawn_speakers [] done = refl
withdrawn_speakers (conv ∷ more) done = withdrawn_speakers more (OfPrompts k.Needkey (side.Withdrawn conv) ∷ OfPrompts k.Confirm (side.Withdrawn conv) ∷ done)

withdrawn_talk : (convs : List ℕ) (done : List Deed) (n : ℕ) → talk (all_withdrawn convs done) n ≡ talk done n
withdrawn_talk [] done n = refl
withdrawn_talk (conv ∷ more) done n = withdrawn_talk more (OfPrompts k.Needkey (side.Withdrawn conv) ∷ OfPrompts k.Confirm (side.Withdrawn conv) ∷ done) n

pub withdrawn_converses : (convs : List ℕ) (done : List Deed) (t : KeepingTalks) → Converses done t → Converses (all_withdrawn convs done) t
withdrawn_converses [] done t h = h
withdrawn_converses (conv ∷ more) done t h =
    let one : List Deed = OfPrompts k.Confirm (side.Withdrawn conv) ∷ done in
    withdrawn_converses more (OfPrompts k.Needkey (side.Withdrawn conv) ∷ one) t (prompts_converses one t k.Needkey (side.Withdrawn conv) (prompts_converses done t k.Confirm (side.Withdrawn conv) h))

one_fewer : (conv : ℕ) (done : List Deed) (kind : PromptKind) (n : ℕ) → times n (askers (OfPrompts k.Needkey (side.Withdrawn conv) ∷ OfPrompts k.Confirm (side.Withdrawn conv) ∷ done) kind) ≤ times n (askers done kind)
one_fewer conv done k.Confirm n = withdrawn_fewer (prompts_of done k.Confirm) conv n
one_fewer conv done k.Needkey n = withdrawn_fewer (prompts_of done k.Needkey) conv n

all_fewer : (convs : List ℕ) (done : List Deed) (kind : PromptKind) (n : ℕ) → times n (askers (all_withdrawn convs done) kind) ≤ times n (askers done kind)
all_fewer [] done kind n = omega arith
all_fewer (conv ∷ more) done kind n =
    let rest = all_fewer more (OfPrompts k.Needkey (side.Withdrawn conv) ∷ OfPrompts k.Confirm (side.Withdrawn conv) ∷ done) kind n in
    let one = one_fewer conv done kind n in
    omega (arith, rest, one)

one_gone : (conv : ℕ) (done : List Deed) (kind : PromptKind) (n : ℕ) → is_asker (OfPrompts k.Needkey (side.Withdrawn conv) ∷ OfPrompts k.Confirm (side.Withdrawn conv) ∷ done) kind n ≡ true → eqb conv n ≡ false
one_gone conv done k.Confirm n e = (withdrawn_left (prompts_of done k.Confirm) conv n e).1
one_gone conv done k.Needkey n e = (withdrawn_left (prompts_of done k.Needkey) conv n e).1

-- none of theirs is left
all_gone : (convs : List ℕ) (done : List Deed) (kind : PromptKind) (n : ℕ) → is_asker (all_withdrawn convs done) kind n ≡ true → has n convs ≡ false
all_gone [] done kind n e = refl
all_gone (conv ∷ more) done kind n e =
    let two : List Deed = OfPrompts k.Needkey (side.Withdrawn conv) ∷ OfPrompts k.Confirm (side.Withdrawn conv) ∷ done in
    let there : is_asker two kind n ≡ true = more_has (askers (all_withdrawn more two) kind) (askers two kind) n (all_fewer more two kind n) e in
    rw (one_gone conv done kind n there) (all_gone more two kind n e)

-- ---- who isn't among those that end still stands

still_stands : (stays : ℕ → Bool) (xs : List Speaker) (n : ℕ) → is_among xs n ≡ true → has n (map (λ s. s.conv) (filter (λ s. not (stays s.conv)) xs)) ≡ false → stays n ≡ true
still_stands stays [] n there none = absurd (false≢true there)
still_stands stays (s ∷ xs) n there none = here (eqb s.conv n) (stays s.conv) refl refl there none (still_stands stays xs n)
  where
    left : List ℕ
    left = map (λ s. s.conv) (filter (λ s. not (stays s.conv)) xs)

    here : (b k : Bool) → eqb s.conv n ≡ b → stays s.conv ≡ k → (b || is_among xs n) ≡ true → has n (map (λ s. s.conv) (cond (not k) (s ∷ filter (λ s. not (stays s.conv)) xs) (filter (λ s. not (stays s.conv)) xs))) ≡ false → (is_among xs n ≡ true → has n left ≡ false → stays n ≡ true) → stays n ≡ true
    here true true is e f g more = ap stays (sym (eqb-true s.conv n is)) ∙ e
    here true false is e f g more = absurd (false≢true (sym g ∙ rw is refl))
    here false true is e f g more = more f g
    here false false is e f g more = more f (rw is at g)

-- ---- behind the deed

-- what a deed does by which conversations end
record Ends (deed : Deed) (keep : Speaker → Bool) : Type 0 where
  pub stand : (before : List Deed) (q : ℕ) → stands (deed ∷ before) q ≡ is_among (filter keep (speakers before)) q
  pub talks : (before : List Deed) (q : ℕ) → talk (deed ∷ before) q ≡ talk before q
  pub asks : (before : List Deed) (kind : PromptKind) → askers (deed ∷ before) kind ≡ askers before kind
  pub files : (before : List Deed) (f : LineFiles) → Files before f → Files (deed ∷ before) f

ended_wait : (done : List Deed) (deed : Deed) (keep : Speaker → Bool) → Ends deed keep → AllWait done → AllWait (ended deed done)
ended_wait done deed keep d h = record {
  asked = λ kind n e.
      (let then : is_asker (all_withdrawn (ended_by deed done) done) kind n ≡ true = subst (λ (ns : List ℕ). has n ns ≡ true) (d.asks (all_withdrawn (ended_by deed done) done) kind) e in
      let was : Waits done kind n = h.asked kind n (more_has (askers (all_withdrawn (ended_by deed done) done) kind) (askers done kind) n (all_fewer (ended_by deed done) done kind n) then) in
      record {
        stands = d.stand (all_withdrawn (ended_by deed done) done) n
            ∙ (ap (λ (ss : List Speaker). is_among (filter keep ss) n) (withdrawn_speakers (ended_by deed done) done)
            ∙ (sym (d.stand done n) ∙ still_stands (λ q. stands (deed ∷ done) q) (speakers done) n was.stands (all_gone (ended_by deed done) done kind n then)));
        asks = ap (λ (xs : List Call). asked_kind (standing xs).phase) (d.talks (all_withdrawn (ended_by deed done) done) n ∙ withdrawn_talk (ended_by deed done) done n) ∙ was.asks;
      });
  once = λ kind n.
      (let fewer = all_fewer (ended_by deed done) done kind n in
      let once = h.once kind n in
      subst (λ (ns : List ℕ). times n ns ≤ 1) (sym (d.asks (all_withdrawn (ended_by deed done) done) kind)) (omega (arith, fewer, once)));
}

-- of the code alone: the questions of who leaves are withdrawn
abbrev Withdraws : Leaving → List HeldSpeaker → LineFiles → LineFiles → Type 0
Withdraws who xs old new = (done : List Deed) → Files done old → Files (all_withdrawn (convs_leaving who xs) done) new

ended_tells : (done : List Deed) (deed : Deed) (who : Leaving) (keep : Speaker → Bool) → ((s : HeldSpeaker) → keep (speaker_of s) ≡ not (leaves who s)) → Ends deed keep
    → (old : AskingTalks) (talks : KeepingTalks) (files : LineFiles) (xs : List HeldSpeaker) → map speaker_of xs ≡ speakers done → Withdraws who xs old.files files
    → ((d : List Deed) → Converses d old.talks → Converses (deed ∷ d) talks) → Tells done old → Tells (ended deed done) (record { talks = talks; files = files })
ended_tells done deed who keep every d old talks files xs e withdraws ends h = record {
  talks = ends (all_withdrawn (ended_by deed done) done) (withdrawn_converses (ended_by deed done) done old.talks h.talks);
  files = d.files (all_withdrawn (ended_by deed done) done) files (subst (λ (convs : List ℕ). Files (all_withdrawn convs done) files) (ending done deed who keep every (d.stand done) xs e) (withdraws done h.files));
  users = ended_wait done deed keep d h.users;
}

pub clunked_tells : (done : List Deed) (conn fid : ℕ) (old : AskingTalks) (talks : KeepingTalks) (files : LineFiles) (xs : List HeldSpeaker) → map speaker_of xs ≡ speakers done → Withdraws (l.Fid conn fid) xs old.files files
    → ((d : List Deed) → Converses d old.talks → Converses (OfFids conn (Clunked fid) ∷ d) talks) → Tells done old → Tells (ended (OfFids conn (Clunked fid)) done) (record { talks = talks; files = files })
clunked_tells done conn fid old talks files xs e withdraws ends h =
    ended_tells done (OfFids conn (Clunked fid)) (l.Fid conn fid) (λ s. not (eqb s.conn conn && eqb s.fid fid)) (λ s. refl)
    (record { stand = λ before q. refl; talks = λ before q. refl; asks = λ before kind. refl; files = λ before f g. record { confirm = g.confirm; needkey = g.needkey; log = g.log; debug = g.debug } })
    old talks files xs e withdraws ends h

pub versioned_tells : (done : List Deed) (conn : ℕ) (msize : Option ℕ) (old : AskingTalks) (talks : KeepingTalks) (files : LineFiles) (xs : List HeldSpeaker) → map speaker_of xs ≡ speakers done → Withdraws (l.Connection conn) xs old.files files
    → ((d : List Deed) → Converses d old.talks → Converses (OfFids conn (Versioned msize) ∷ d) talks) → Tells done old → Tells (ended (OfFids conn (Versioned msize)) done) (record { talks = talks; files = files })
versioned_tells done conn msize old talks files xs e withdraws ends h =
    ended_tells done (OfFids conn (Versioned msize)) (l.Connection conn) (λ s. not (eqb s.conn conn)) (λ s. refl)
    (record { stand = λ before q. refl; talks = λ before q. refl; asks = λ before kind. refl; files = λ before f g. record { confirm = g.confirm; needkey = g.needkey; log = g.log; debug = g.debug } })
    old talks files xs e withdraws ends h

pub hung_tells : (done : List Deed) (conn : ℕ) (old : AskingTalks) (talks : KeepingTalks) (files : LineFiles) (xs : List HeldSpeaker) → map speaker_of xs ≡ speakers done → Withdraws (l.Connection conn) xs old.files files
    → ((d : List Deed) → Converses d old.talks → Converses (OfConnection conn Hung ∷ d) talks) → Tells done old → Tells (ended (OfConnection conn Hung) done) (record { talks = talks; files = files })
hung_tells done conn old talks files xs e withdraws ends h =
    ended_tells done (OfConnection conn Hung) (l.Connection conn) (λ s. not (eqb s.conn conn)) (λ s. refl)
    (record { stand = λ before q. refl; talks = λ before q. refl; asks = λ before kind. refl; files = λ before f g. record { confirm = g.confirm; needkey = g.needkey; log = g.log; debug = g.debug } })
    old talks files xs e withdraws ends h
