-- What is told of a connection after one more event.
use Rattle.std.proofs.Common.{◌≡◌, ℕ, ◌+◌, List, [], ◌∷◌, length, map, Bool, true, false, cond, eqb, not, ◌&&◌, ◌||◌, Option, refl, sym, subst, ap, ◌∙◌, inl, inr}
use Rattle.std.specs.Prelude.{nat_lt}
use Rattle.std.proofs.lemmas.Bool.{cases_Bool, eq-eqb, eqb-true, false≢true}
use Rattle.nine.specs.declared.message.RMsg.{RMsg}
use Rattle.nine.specs.Messages.{r_frame}
use Rattle.side_files.specs.Calls as side
use Rattle.side_files.specs.declared.line.PromptKind.{PromptKind}
use Rattle.side_files.specs.declared.line.PromptKind.TheVariants as k
use Rattle.talks.specs.Calls as calls
use Rattle.agent_history.specs.declared.event.Event.{Event}
use Rattle.agent_history.specs.declared.event.Event.TheVariants as v
use Rattle.agent_history.specs.Deeds.{Deed, FidDeed, KeyDeed, ReplyDeed, OfFids, OfKeys, OfReplies, OfConnection, OfTalk, OfPrompts, OfLog, Raised, HandedOut, DropTaken, Halted, Swept, Versioned, Attached, Walked, Opened, Listed, Browsed, Clunked, Taken, Entered, Hung, was_opened, was_hung, is_halted}
use Rattle.agent_history.specs.Replies.{swept, untaken}
use Rattle.agent_history.specs.Conversations.{Due, NoneDue, DropDue, QuestionDue, all_withdrawn, asker, closed, due, ended_by, given_up_by, resumed}
use Rattle.agent_history.specs.Requests.{answered, call_of}
use Rattle.agent_history.specs.Histories.{History, deeds, does, entered, handing, has_stopped, most_events, taking}
use Rattle.mailboxes.specs.Deliveries.{Delivers, replies_at}
use Rattle.agent_requests.specs.declared.connection.Connection.{Connection}
use Rattle.agent_requests.specs.Connections.{Keeps, is_opened}
use Rattle.agent_requests.proofs.OwnRequests.{IsOwn, answered_own, entered_by}
use Rattle.agent_requests.specs.Conversations.{Conversations}
use Rattle.agent_requests.specs.Logging.{Logs}
use Rattle.agent_requests.proofs.DeedLemmas.{replies_logs}
use Rattle.agent_requests.specs.declared.shared.Shared.{Shared}
use Rattle.agent_requests.specs.declared.holders.Holders.{Holders}
use Rattle.agent_requests.specs.Sharing.{Holds, Shares}
use Rattle.agent_requests.proofs.OwnDeeds.{OfAll, closed_all, ended_all, resumed_all, swept_by}
use Rattle.agent_requests.proofs.ShareLemmas.{with_talks}
use Rattle.agent_requests.proofs.FidLemmas.{shares_entered}
use Rattle.agent_core.specs.Events.{Known, Unknown, Live, HungUp, KeepsNothing, KeepsAt, Stands, AllStand, Serves, is_hung_at, is_open_at, is_stop}

pub same : (a : ℕ) → eqb a a ≡ true
same a = eq-eqb a a refl

-- ---- what holds before an event of a connection, and after each deed that the event may do, holds after it

served_own : (conn : ℕ) (P : List Deed → Type 0) → IsOwn conn P → (done : List Deed) (frame word : List ℕ) → P (entered conn done) → P (swept (answered (entered conn done) (call_of conn frame word) frame))
served_own conn P own done frame word h =
    swept_by P own.all.swept (answered (entered conn done) (call_of conn frame word) frame) (answered_own (call_of conn frame word) P own (entered conn done) frame h)

request_own : (conn : ℕ) (P : List Deed → Type 0) → IsOwn conn P → (done : List Deed) (frame word : List ℕ) → P done → P (does done (v.Request conn frame word))
request_own conn P own done frame word h = here (was_hung done conn)
  where
    here : (b : Bool) → P (cond b done (swept (answered (entered conn done) (call_of conn frame word) frame)))
    here true = h
    here false = served_own conn P own done frame word (entered_by conn P own.entered done h)

taking_own : (conn : ℕ) (P : List Deed → Type 0) → IsOwn conn P → (ms : List RMsg) (done : List Deed) → P done → P (taking conn ms done)
taking_own conn P own [] done h = h
taking_own conn P own (m ∷ ms) done h = own.all.replies conn Taken done h

take_own : (conn : ℕ) (P : List Deed → Type 0) → IsOwn conn P → (done : List Deed) → P done → P (does done (v.Take conn))
take_own conn P own done h = here (was_hung done conn)
  where
    here : (b : Bool) → P (cond b done (taking conn (untaken done conn) (entered conn done)))
    here true = h
    here false = taking_own conn P own (untaken done conn) (entered conn done) (entered_by conn P own.entered done h)

-- what the authentication server is done with
resumed_by : (P : List Deed → Type 0) → OfAll P → (conv : Option ℕ) (call : calls.Call) (done : List Deed) → P done → P (swept (resumed conv call done))
resumed_by P all conv call done h = swept_by P all.swept (resumed conv call done) (resumed_all P all conv call done h)

-- a connection is hung up
hung_by : (P : List Deed → Type 0) → OfAll P → (conn : ℕ) (done : List Deed) → ((before : List Deed) → P before → P (OfConnection conn Hung ∷ before)) → P done → P (swept (given_up_by (OfConnection conn Hung) done))
hung_by P all conn done hangs h = swept_by P all.swept (given_up_by (OfConnection conn Hung) done) (ended_all P all (OfConnection conn Hung) done hangs h)

handing_by : (P : List Deed → Type 0) → ((done : List Deed) → P done → P (HandedOut ∷ done)) → ((done : List Deed) → P done → P (DropTaken ∷ done)) → (d : Due) (done : List Deed) → P done → P (handing d done)
handing_by P hands drops NoneDue done h = h
handing_by P hands drops (DropDue drop) done h = drops done h
handing_by P hands drops (QuestionDue question) done h = hands done h

-- ---- connections that the event isn't on

fids_others : (conn q : ℕ) (c : Connection) → eqb conn q ≡ false → (deed : FidDeed) (done : List Deed) → Keeps done q c → Keeps (OfFids conn deed ∷ done) q c
fids_others conn q c e (Versioned msize) done k = record { live = k.live; msize = rw e k.msize; fids = λ fid. rw e (k.fids fid); held = rw e k.held; texts = λ fid. rw e (k.texts fid) }
fids_others conn q c e (Attached f) done k = record { live = k.live; msize = k.msize; fids = λ fid. rw e (k.fids fid); held = rw e k.held; texts = λ fid. rw e (k.texts fid) }
fids_others conn q c e (Walked f node) done k = record { live = k.live; msize = k.msize; fids = λ fid. rw e (k.fids fid); held = rw e k.held; texts = λ fid. rw e (k.texts fid) }
fids_others conn q c e (Opened f mode) done k = record { live = k.live; msize = k.msize; fids = λ fid. rw e (k.fids fid); held = k.held; texts = k.texts }
fids_others conn q c e (Listed f) done k = record { live = k.live; msize = k.msize; fids = k.fids; held = k.held; texts = λ fid. rw e (k.texts fid) }
fids_others conn q c e (Browsed f next) done k = record { live = k.live; msize = k.msize; fids = λ fid. rw e (k.fids fid); held = k.held; texts = k.texts }
fids_others conn q c e (Clunked f) done k = record { live = k.live; msize = k.msize; fids = λ fid. rw e (k.fids fid); held = rw e k.held; texts = λ fid. rw e (k.texts fid) }

none_others : (conn q : ℕ) → eqb conn q ≡ false → (deed : FidDeed) (done : List Deed) → KeepsNothing done q → KeepsNothing (OfFids conn deed ∷ done) q
none_others conn q e (Versioned msize) done k = record { live = k.live; msize = rw e k.msize; fids = λ fid. rw e (k.fids fid); held = rw e k.held; texts = λ fid. rw e (k.texts fid) }
none_others conn q e (Attached f) done k = record { live = k.live; msize = k.msize; fids = λ fid. rw e (k.fids fid); held = rw e k.held; texts = λ fid. rw e (k.texts fid) }
none_others conn q e (Walked f node) done k = record { live = k.live; msize = k.msize; fids = λ fid. rw e (k.fids fid); held = rw e k.held; texts = λ fid. rw e (k.texts fid) }
none_others conn q e (Opened f mode) done k = record { live = k.live; msize = k.msize; fids = λ fid. rw e (k.fids fid); held = k.held; texts = k.texts }
none_others conn q e (Listed f) done k = record { live = k.live; msize = k.msize; fids = k.fids; held = k.held; texts = λ fid. rw e (k.texts fid) }
none_others conn q e (Browsed f next) done k = record { live = k.live; msize = k.msize; fids = k.fids; held = k.held; texts = k.texts }
none_others conn q e (Clunked f) done k = record { live = k.live; msize = k.msize; fids = λ fid. rw e (k.fids fid); held = rw e k.held; texts = λ fid. rw e (k.texts fid) }

at_fids : (conn q : ℕ) (o : Known) → eqb conn q ≡ false → (deed : FidDeed) (done : List Deed) → KeepsAt done q o → KeepsAt (OfFids conn deed ∷ done) q o
at_fids conn q Unknown e deed done k = none_others conn q e deed done k
at_fids conn q (Live c) e deed done k = fids_others conn q c e deed done k
at_fids conn q HungUp e deed done k = k

at_keys : (conn q : ℕ) (o : Known) (deed : KeyDeed) (done : List Deed) → KeepsAt done q o → KeepsAt (OfKeys conn deed ∷ done) q o
at_keys conn q Unknown deed done k = record { live = k.live; msize = k.msize; fids = k.fids; held = k.held; texts = k.texts }
at_keys conn q (Live c) deed done k = record { live = k.live; msize = k.msize; fids = k.fids; held = k.held; texts = k.texts }
at_keys conn q HungUp deed done k = k

at_replies : (conn q : ℕ) (o : Known) (deed : ReplyDeed) (done : List Deed) → KeepsAt done q o → KeepsAt (OfReplies conn deed ∷ done) q o
at_replies conn q Unknown deed done k = record { live = k.live; msize = k.msize; fids = k.fids; held = k.held; texts = k.texts }
at_replies conn q (Live c) deed done k = record { live = k.live; msize = k.msize; fids = k.fids; held = k.held; texts = k.texts }
at_replies conn q HungUp deed done k = k

at_talk : (q : ℕ) (o : Known) (conv : ℕ) (call : calls.Call) (done : List Deed) → KeepsAt done q o → KeepsAt (OfTalk conv call ∷ done) q o
at_talk q Unknown conv call done k = record { live = k.live; msize = k.msize; fids = k.fids; held = k.held; texts = k.texts }
at_talk q (Live c) conv call done k = record { live = k.live; msize = k.msize; fids = k.fids; held = k.held; texts = k.texts }
at_talk q HungUp conv call done k = k

at_asked : (q : ℕ) (o : Known) (kind : PromptKind) (call : side.Call) (done : List Deed) → KeepsAt done q o → KeepsAt (OfPrompts kind call ∷ done) q o
at_asked q Unknown kind call done k = record { live = k.live; msize = k.msize; fids = k.fids; held = k.held; texts = k.texts }
at_asked q (Live c) kind call done k = record { live = k.live; msize = k.msize; fids = k.fids; held = k.held; texts = k.texts }
at_asked q HungUp kind call done k = k

at_logged : (q : ℕ) (o : Known) (call : side.LogCall) (done : List Deed) → KeepsAt done q o → KeepsAt (OfLog call ∷ done) q o
at_logged q Unknown call done k = record { live = k.live; msize = k.msize; fids = k.fids; held = k.held; texts = k.texts }
at_logged q (Live c) call done k = record { live = k.live; msize = k.msize; fids = k.fids; held = k.held; texts = k.texts }
at_logged q HungUp call done k = k

at_raised : (q : ℕ) (o : Known) (conv : ℕ) (done : List Deed) → KeepsAt done q o → KeepsAt (Raised conv ∷ done) q o
at_raised q Unknown conv done k = record { live = k.live; msize = k.msize; fids = k.fids; held = k.held; texts = k.texts }
at_raised q (Live c) conv done k = record { live = k.live; msize = k.msize; fids = k.fids; held = k.held; texts = k.texts }
at_raised q HungUp conv done k = k

at_handed : (q : ℕ) (o : Known) (done : List Deed) → KeepsAt done q o → KeepsAt (HandedOut ∷ done) q o
at_handed q Unknown done k = record { live = k.live; msize = k.msize; fids = k.fids; held = k.held; texts = k.texts }
at_handed q (Live c) done k = record { live = k.live; msize = k.msize; fids = k.fids; held = k.held; texts = k.texts }
at_handed q HungUp done k = k

at_dropped : (q : ℕ) (o : Known) (done : List Deed) → KeepsAt done q o → KeepsAt (DropTaken ∷ done) q o
at_dropped q Unknown done k = record { live = k.live; msize = k.msize; fids = k.fids; held = k.held; texts = k.texts }
at_dropped q (Live c) done k = record { live = k.live; msize = k.msize; fids = k.fids; held = k.held; texts = k.texts }
at_dropped q HungUp done k = k

at_entered : (conn q : ℕ) (o : Known) (done : List Deed) → KeepsAt done q o → KeepsAt (OfConnection conn Entered ∷ done) q o
at_entered conn q Unknown done k = record { live = k.live; msize = k.msize; fids = k.fids; held = k.held; texts = k.texts }
at_entered conn q (Live c) done k = record { live = k.live; msize = k.msize; fids = k.fids; held = k.held; texts = k.texts }
at_entered conn q HungUp done k = k

at_swept : (q : ℕ) (o : Known) (done : List Deed) → KeepsAt done q o → KeepsAt (Swept ∷ done) q o
at_swept q Unknown done k = record { live = k.live; msize = k.msize; fids = k.fids; held = k.held; texts = k.texts }
at_swept q (Live c) done k = record { live = k.live; msize = k.msize; fids = k.fids; held = k.held; texts = k.texts }
at_swept q HungUp done k = k

stands_all : (q : ℕ) (o : Known) → OfAll (λ done. Stands done q o)
stands_all q o = record {
  talks = record {
    talk = λ conv call done s. record { opened = s.opened; hung = s.hung; keeps = λ live. at_talk q o conv call done (s.keeps live) };
    asked = λ kind call done s. record { opened = s.opened; hung = s.hung; keeps = λ live. at_asked q o kind call done (s.keeps live) };
    logged = λ call done s. record { opened = s.opened; hung = s.hung; keeps = λ live. at_logged q o call done (s.keeps live) };
    raised = λ conv done s. record { opened = s.opened; hung = s.hung; keeps = λ live. at_raised q o conv done (s.keeps live) };
  };
  replies = λ at deed done s. record { opened = s.opened; hung = s.hung; keeps = λ live. at_replies at q o deed done (s.keeps live) };
  swept = λ done s. record { opened = s.opened; hung = s.hung; keeps = λ live. at_swept q o done (s.keeps live) };
}

stands_own : (conn q : ℕ) (o : Known) → eqb conn q ≡ false → IsOwn conn (λ done. Stands done q o)
stands_own conn q o e = record {
  fids = λ deed done s. record { opened = s.opened; hung = s.hung; keeps = λ live. at_fids conn q o e deed done (s.keeps live) };
  keys = λ deed done s. record { opened = s.opened; hung = s.hung; keeps = λ live. at_keys conn q o deed done (s.keeps live) };
  entered = λ done s. record { opened = rw e s.opened; hung = s.hung; keeps = λ live. at_entered conn q o done (s.keeps live) };
  all = stands_all q o;
}

-- what the authentication server is done with changes nothing that is kept of a connection
pub resumed_stand : (conv : Option ℕ) (call : calls.Call) (done : List Deed) (at : ℕ → Known) → AllStand done at → AllStand (swept (resumed conv call done)) at
resumed_stand conv call done at all q = resumed_by (λ now. Stands now q (at q)) (stands_all q (at q)) conv call done (all q)

pub handed_stand : (d : Due) (done : List Deed) (at : ℕ → Known) → AllStand done at → AllStand (handing d done) at
handed_stand d done at all q =
    handing_by (λ now. Stands now q (at q)) (λ now s. record { opened = s.opened; hung = s.hung; keeps = λ live. at_handed q (at q) now (s.keeps live) })
    (λ now s. record { opened = s.opened; hung = s.hung; keeps = λ live. at_dropped q (at q) now (s.keeps live) }) d done (all q)

pub request_others : (done : List Deed) (conn : ℕ) (frame word : List ℕ) (q : ℕ) (o : Known) → eqb conn q ≡ false → Stands done q o → Stands (does done (v.Request conn frame word)) q o
request_others done conn frame word q o e s = request_own conn (λ now. Stands now q o) (stands_own conn q o e) done frame word s

pub take_others : (done : List Deed) (conn q : ℕ) (o : Known) → eqb conn q ≡ false → Stands done q o → Stands (does done (v.Take conn)) q o
take_others done conn q o e s = take_own conn (λ now. Stands now q o) (stands_own conn q o e) done s

-- ---- the connection of the event

opened_own : (conn q : ℕ) → IsOwn conn (λ done. was_opened done q ≡ true)
opened_own conn q = record {
  fids = λ deed done h. h;
  keys = λ deed done h. h;
  entered = λ done h. here (eqb conn q) h;
  all = record { talks = record { talk = λ conv call done h. h; asked = λ kind call done h. h; logged = λ call done h. h; raised = λ conv done h. h }; replies = λ at deed done h. h; swept = λ done h. h };
}
  where
    here : (b : Bool) {x : Bool} → x ≡ true → (b || x) ≡ true
    here true h = refl
    here false h = h

halted_all : OfAll (λ done. is_halted done ≡ false)
halted_all = record { talks = record { talk = λ conv call done h. h; asked = λ kind call done h. h; logged = λ call done h. h; raised = λ conv done h. h }; replies = λ at deed done h. h; swept = λ done h. h }

halted_own : (conn : ℕ) → IsOwn conn (λ done. is_halted done ≡ false)
halted_own conn = record { fids = λ deed done h. h; keys = λ deed done h. h; entered = λ done h. h; all = halted_all }

was_entered : (conn : ℕ) (done : List Deed) → was_opened (entered conn done) conn ≡ true
was_entered conn done = elim (cases_Bool (was_opened done conn)) [
  | inl is ↦ rw (is, is) refl
  | inr is ↦ rw (is, same conn) refl
]

pub keeps_entered : (conn : ℕ) (c : Connection) (done : List Deed) → Keeps done conn c → Keeps (entered conn done) conn c
keeps_entered conn c done k = entered_by conn (λ now. Keeps now conn c) (λ now h. at_entered conn conn (Live c) now h) done k

pub request_stands : (done : List Deed) (conn : ℕ) (frame word : List ℕ) (d : Connection) → was_hung done conn ≡ false → is_opened d.phase ≡ true → Keeps (answered (entered conn done) (call_of conn frame word) frame) conn d
    → Stands (does done (v.Request conn frame word)) conn (Live d)
request_stands done conn frame word d live opened k =
    let last : List Deed = answered (entered conn done) (call_of conn frame word) frame in
    let kept : Keeps (swept last) conn d = swept_by (λ now. Keeps now conn d) (λ now h. at_swept conn (Live d) now h) last k in
    rw live (record {
      opened = opened ∙ sym (served_own conn (λ now. was_opened now conn ≡ true) (opened_own conn conn) done frame word (was_entered conn done));
      hung = sym kept.live;
      keeps = λ h. kept;
    })

-- nothing happens on a connection that was hung up
pub request_hung : (done : List Deed) (conn : ℕ) (frame word : List ℕ) (o : Known) → was_hung done conn ≡ true → Stands done conn o → Stands (does done (v.Request conn frame word)) conn o
request_hung done conn frame word o hung s = rw hung s

-- ---- a take of a reply

taking_some : (conn : ℕ) (ms : List RMsg) (X : List Deed) (x : List ℕ) (rest : List (List ℕ)) → x ∷ rest ≡ map r_frame ms → taking conn ms X ≡ OfReplies conn Taken ∷ X
taking_some conn [] X x rest e = absurd cc
taking_some conn (m ∷ ms) X x rest e = refl

pub take_serves : (done : List Deed) (conn : ℕ) (c d : Connection) (s u : Shared) (x : List ℕ) (rest : List (List ℕ)) → was_hung done conn ≡ false → Serves done conn c s → is_opened d.phase ≡ true → Keeps done conn d
    → replies_at s.mailboxes conn ≡ x ∷ rest → u.ring ≡ s.ring → u.holders ≡ s.holders → u.talks ≡ s.talks → ((now : List Deed) → Delivers now s.mailboxes → Delivers (OfReplies conn Taken ∷ now) u.mailboxes) → Serves (does done (v.Take conn)) conn d u
take_serves done conn c d s u x rest live before opened k some ring holders talks pops =
    let shares = shares_entered done conn s before.shares in
    let kept = at_replies conn conn (Live d) Taken (entered conn done) (keeps_entered conn d done k) in
    rw (live, taking_some conn (untaken done conn) (entered conn done) x rest (sym some ∙ (before.shares.mail.mails conn live).replies)) (record {
      stands = record { opened = opened ∙ sym (was_entered conn done); hung = sym kept.live; keeps = λ h. kept };
      shares = record {
        ring = ring ∙ shares.ring;
        holders = subst (λ (now : Holders). Holds (OfReplies conn Taken ∷ entered conn done) now) (sym holders) (record { confirm = shares.holders.confirm; needkey = shares.holders.needkey; log = shares.holders.log });
        mail = pops (entered conn done) shares.mail;
        talks = subst (λ (now : Conversations). Logs (OfReplies conn Taken ∷ entered conn done) now) (sym talks) (replies_logs (entered conn done) s.talks conn Taken shares.talks);
        live = shares.live;
        held = shares.held;
      };
    })

-- no reply is left
taking_none : (conn : ℕ) (ms : List RMsg) (X : List Deed) → [] ≡ map r_frame ms → taking conn ms X ≡ X
taking_none conn [] X e = refl
taking_none conn (m ∷ ms) X e = absurd cc

pub take_nothing : (done : List Deed) (conn : ℕ) (c d : Connection) (s : Shared) → was_hung done conn ≡ false → Serves done conn c s → is_opened d.phase ≡ true → Keeps done conn d → replies_at s.mailboxes conn ≡ [] → Serves (does done (v.Take conn)) conn d s
take_nothing done conn c d s live before opened k none =
    let kept : Keeps (entered conn done) conn d = keeps_entered conn d done k in
    rw (live, taking_none conn (untaken done conn) (entered conn done) (sym none ∙ (before.shares.mail.mails conn live).replies)) (record {
      stands = record { opened = opened ∙ sym (was_entered conn done); hung = sym kept.live; keeps = λ h. kept };
      shares = shares_entered done conn s before.shares;
    })

-- ---- all connections, where the one of the event was changed

pub all_stand : (done after : List Deed) (at : ℕ) (old new : ℕ → Known) (k : Known) → ((q : ℕ) → new q ≡ cond (eqb at q) k (old q)) → Stands after at k
    → ((q : ℕ) → eqb at q ≡ false → Stands done q (old q) → Stands after q (old q)) → AllStand done old → AllStand after new
all_stand done after at old new k updates here others all q = elim (cases_Bool (eqb at q)) [
  | inl is ↦
      let found : new q ≡ k = updates q ∙ rw is refl in
      subst (λ (o : Known). Stands after q o) (sym found) (subst (λ (n : ℕ). Stands after n k) (eqb-true at q is) here)
  | inr is ↦
      let found : new q ≡ old q = updates q ∙ rw is refl in
      subst (λ (o : Known). Stands after q o) (sym found) (others q is (all q))
]

-- ---- events that don't stop the agent

pub runs_on : (done : List Deed) (event : Event) → is_halted done ≡ false → is_stop event ≡ false → is_halted (does done event) ≡ false
runs_on done (v.Request conn frame word) h go = request_own conn (λ now. is_halted now ≡ false) (halted_own conn) done frame word h
runs_on done (v.Take conn) h go = take_own conn (λ now. is_halted now ≡ false) (halted_own conn) done h
runs_on done (v.Hang conn) h go = here (was_opened done conn && not (was_hung done conn))
  where
    here : (b : Bool) → is_halted (cond b (swept (given_up_by (OfConnection conn Hung) done)) done) ≡ false
    here true = hung_by (λ now. is_halted now ≡ false) halted_all conn done (λ before k. k) h
    here false = h
runs_on done (v.Answer call bytes) h go = resumed_by (λ now. is_halted now ≡ false) halted_all (asker done call) (calls.Heard bytes) done h
runs_on done (v.NoAnswer call) h go = resumed_by (λ now. is_halted now ≡ false) halted_all (asker done call) calls.Unheard done h
runs_on done (v.NoRoom call) h go = resumed_by (λ now. is_halted now ≡ false) halted_all (asker done call) calls.Roomless done h
runs_on done v.TakeAsk h go = handing_by (λ now. is_halted now ≡ false) (λ now k. k) (λ now k. k) (due done) done h
runs_on done v.Stop h go = absurd (false≢true (sym go))

-- what is shared after something was handed out
pub shares_handed : (done : List Deed) (s : Shared) (t : Conversations) → Logs (HandedOut ∷ done) t → Shares done s → Shares (HandedOut ∷ done) (with_talks s t)
shares_handed done s t logs h = record {
  ring = h.ring;
  holders = record { confirm = h.holders.confirm; needkey = h.holders.needkey; log = h.holders.log };
  mail = record { mails = λ q live. let k = h.mail.mails q live in record { replies = k.replies; waits = k.waits }; settled = h.mail.settled };
  talks = logs;
  live = h.live;
  held = h.held;
}

pub shares_dropped : (done : List Deed) (s : Shared) (t : Conversations) → Logs (DropTaken ∷ done) t → Shares done s → Shares (DropTaken ∷ done) (with_talks s t)
shares_dropped done s t logs h = record {
  ring = h.ring;
  holders = record { confirm = h.holders.confirm; needkey = h.holders.needkey; log = h.holders.log };
  mail = record { mails = λ q live. let k = h.mail.mails q live in record { replies = k.replies; waits = k.waits }; settled = h.mail.settled };
  talks = logs;
  live = h.live;
  held = h.held;
}

-- ---- a hang

hung_before : (a b : Bool) → (a || b) ≡ false → b ≡ false
hung_before true b e = absurd (false≢true (sym e))
hung_before false b e = e

at_hung : (conn q : ℕ) (o : Known) → eqb conn q ≡ false → (done : List Deed) → KeepsAt done q o → KeepsAt (OfConnection conn Hung ∷ done) q o
at_hung conn q Unknown e done k = record { live = rw e k.live; msize = rw e k.msize; fids = λ fid. rw e (k.fids fid); held = rw e k.held; texts = λ fid. rw e (k.texts fid) }
at_hung conn q (Live c) e done k = record { live = rw e k.live; msize = rw e k.msize; fids = λ fid. rw e (k.fids fid); held = rw e k.held; texts = λ fid. rw e (k.texts fid) }
at_hung conn q HungUp e done k = k

pub hang_others : (done : List Deed) (conn q : ℕ) (o : Known) → eqb conn q ≡ false → Stands done q o → Stands (does done (v.Hang conn)) q o
hang_others done conn q o e s = here (was_opened done conn && not (was_hung done conn))
  where
    here : (b : Bool) → Stands (cond b (swept (given_up_by (OfConnection conn Hung) done)) done) q o
    here true = hung_by (λ now. Stands now q o) (stands_all q o) conn done (λ before k. record { opened = k.opened; hung = rw e k.hung; keeps = λ live. at_hung conn q o e before (k.keeps (hung_before (eqb conn q) (was_hung before q) live)) }) s
    here false = s

-- the connection itself: of it nothing is kept but that it was hung up
was_hung_all : (conn : ℕ) → OfAll (λ done. was_hung done conn ≡ true)
was_hung_all conn = record { talks = record { talk = λ conv call done h. h; asked = λ kind call done h. h; logged = λ call done h. h; raised = λ conv done h. h }; replies = λ at deed done h. h; swept = λ done h. h }

was_opened_all : (conn : ℕ) → OfAll (λ done. was_opened done conn ≡ true)
was_opened_all conn = record { talks = record { talk = λ conv call done h. h; asked = λ kind call done h. h; logged = λ call done h. h; raised = λ conv done h. h }; replies = λ at deed done h. h; swept = λ done h. h }

hangs_it : (conn : ℕ) (done : List Deed) → was_hung (swept (given_up_by (OfConnection conn Hung) done)) conn ≡ true
hangs_it conn done =
    let is_hung : List Deed → Type 0 = λ now. was_hung now conn ≡ true in
    let all : OfAll is_hung = was_hung_all conn in
    let one : List Deed = OfConnection conn Hung ∷ all_withdrawn (ended_by (OfConnection conn Hung) done) done in
    swept_by is_hung all.swept (given_up_by (OfConnection conn Hung) done) (closed_all is_hung all k.Needkey (closed k.Confirm one) (closed_all is_hung all k.Confirm one (rw (same conn) refl)))

-- a connection is open by the deeds as by what is known of it
pub open_told : (done : List Deed) (conn : ℕ) (k : Known) → Stands done conn k → is_open_at k ≡ (was_opened done conn && not (was_hung done conn))
open_told done conn k s = ap (λ (b : Bool). b && not (is_hung_at k)) s.opened ∙ ap (λ (b : Bool). was_opened done conn && not b) s.hung

opened_part : (a b : Bool) → (a && not b) ≡ true → a ≡ true
opened_part true b e = refl
opened_part false b e = absurd (false≢true e)

hung_after : (done : List Deed) (conn : ℕ) → was_opened done conn ≡ true → Stands (swept (given_up_by (OfConnection conn Hung) done)) conn HungUp
hung_after done conn opened = record {
  opened = sym (hung_by (λ now. was_opened now conn ≡ true) (was_opened_all conn) conn done (λ before k. k) opened);
  hung = sym (hangs_it conn done);
  keeps = λ live. tt;
}

-- what a hang does
pub hang_does : (done : List Deed) (conn : ℕ) (P : List Deed → Type 0) (k : Known) (b : Bool) → is_open_at k ≡ b → Stands done conn k
    → P (cond b (swept (given_up_by (OfConnection conn Hung) done)) done) → P (does done (v.Hang conn))
hang_does done conn P k b is s h = subst (λ (t : Bool). P (cond t (swept (given_up_by (OfConnection conn Hung) done)) done)) (sym is ∙ open_told done conn k s) h

pub hang_stands : (done : List Deed) (conn : ℕ) (k : Known) → is_open_at k ≡ true → Stands done conn k → Stands (does done (v.Hang conn)) conn HungUp
hang_stands done conn k open_now s =
    hang_does done conn (λ now. Stands now conn HungUp) k true open_now s
    (hung_after done conn (opened_part (was_opened done conn) (was_hung done conn) (sym (open_told done conn k s) ∙ open_now)))

-- ---- after a stop

pub stopped_last : (H : History) → has_stopped H ≡ true → (before : List Deed) × (deeds H ≡ Halted ∷ before)
stopped_last [] e = absurd (false≢true e)
stopped_last (event ∷ H) e = elim (cases_Bool (is_halted (deeds H))) [
  | inl was ↦ let last = stopped_last H was in (last.0, rw was last.1)
  | inr was ↦ elim (cases_Bool (nat_lt (length H + 1) most_events)) [
    | inl few ↦ here (is_stop event) refl was few
    | inr many ↦ (does (deeds H) event, rw (was, many) refl)
  ]
]
  where
    stops : (event : Event) → is_stop event ≡ true → (done : List Deed) → does done event ≡ Halted ∷ done
    stops v.Stop e done = refl
    stops (v.Request conn frame word) e done = absurd (false≢true e)
    stops (v.Take conn) e done = absurd (false≢true e)
    stops (v.Hang conn) e done = absurd (false≢true e)
    stops (v.Answer call bytes) e done = absurd (false≢true e)
    stops (v.NoAnswer call) e done = absurd (false≢true e)
    stops (v.NoRoom call) e done = absurd (false≢true e)
    stops v.TakeAsk e done = absurd (false≢true e)

    here : (b : Bool) → is_stop event ≡ b → is_halted (deeds H) ≡ false → nat_lt (length H + 1) most_events ≡ true → (before : List Deed) × (deeds (event ∷ H) ≡ Halted ∷ before)
    here true stop was few = (deeds H, rw (was, few) (stops event stop (deeds H)))
    here false go was few = absurd (false≢true (sym (runs_on (deeds H) event was go) ∙ rw (was, few) at e))
