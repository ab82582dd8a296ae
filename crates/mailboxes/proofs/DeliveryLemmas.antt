-- From what is kept for connections to what deeds say of their replies and of the reads that wait.
use Rattle.std.proofs.Common.{◌≡◌, ℕ, ◌+◌, ◌≤◌, List, [], ◌∷◌, ◌++◌, length, drop, map, filter, reverse, Bool, true, false, not, cond, eqb, ltb, ◌||◌, ◌&&◌, ◌==◌, Option, Some, None, refl, sym, ap, subst, ◌∙◌, inl, inr, arith, length-append}
use Rattle.std.specs.Prelude.{find, is_some, option_map}
use Rattle.std.specs.List.{list_any, filter_map}
use Rattle.std.proofs.lemmas.Bool.{cases_Bool, eq-eqb, eqb-true, ltb-true, ltb-false, false≢true}
use Rattle.std.proofs.lemmas.List.{length-map, drop_all, drop-drop, drop-append-le, length-reverse, reverse-append, reverse-reverse, map-append}
use Rattle.file_tree.specs.declared.tree.Node.{Node}
use Rattle.nine.specs.declared.message.RMsg.{RMsg}
use Rattle.nine.specs.declared.message.RBody.{RBody}
use Rattle.nine.specs.Messages.{r_frame}
use Rattle.side_files.specs.Calls as side
use Rattle.side_files.specs.declared.line.PromptKind.{PromptKind}
use Rattle.agent_history.specs.Deeds.{Deed, OfFids, OfKeys, OfReplies, OfConnection, OfTalk, OfPrompts, OfLog, Raised, HandedOut, DropTaken, Swept, Halted, Entered, Versioned, Attached, Walked, Opened, Listed, Browsed, KeyDeed, Clunked, Answered, Awaited, Settled, Flushed, Taken, Hung, was_hung}
use Rattle.talks.specs.Calls.{Call}
use Rattle.agent_history.specs.Replies as told
use Rattle.agent_history.specs.Replies.{Wait, waits, waits_under, waits_for, has_settled, replies, taken, untaken, fid_given_up, reply_in}
use Rattle.mailboxes.specs.declared.mailboxes.Mailboxes.{Mailboxes}
use Rattle.mailboxes.specs.Mails.{Pending, Mail, is_unsettled, first_of, settled_by, settle_tag, settle_fid, has_tag, has_fid, is_reader, first_reader, pushed, popped, awaited, with_settled, with_fid_settled, flushed, without_waits, swept, no_mail}
use Rattle.mailboxes.specs.Deliveries.{mail_in, mail_at, under, pending, read_of, given_up, Keeps, Delivers, Becomes}

same : (n : ℕ) → eqb n n ≡ true
same n = eq-eqb n n refl

-- ---- reads that wait, with the frames of their replies

flushed_pending : (tag : ℕ) (ws : List Wait) → filter (λ wait. not (wait.tag == tag)) (map pending ws) ≡ map pending (filter (λ wait. not (wait.tag == tag)) ws)
flushed_pending tag [] = refl
flushed_pending tag (w ∷ ws) = elim (cases_Bool (eqb w.tag tag)) [
  | inl is ↦ rw (is, flushed_pending tag ws) refl
  | inr is ↦ rw (is, flushed_pending tag ws) refl
]

tags_pending : (tag : ℕ) (ws : List Wait) → has_tag tag (map pending ws) ≡ list_any (λ wait. wait.tag == tag) ws
tags_pending tag [] = refl
tags_pending tag (w ∷ ws) = ap (λ (b : Bool). (w.tag == tag) || b) (tags_pending tag ws)

fids_pending : (fid : ℕ) (ws : List Wait) → has_fid fid (map pending ws) ≡ list_any (λ wait. wait.fid == fid) ws
fids_pending fid [] = refl
fids_pending fid (w ∷ ws) = ap (λ (b : Bool). (w.fid == fid) || b) (fids_pending fid ws)

first_pending : (tag : ℕ) (body : RBody) (o : Option RBody) → first_of (r_frame (under tag body)) (option_map (λ b. r_frame (under tag b)) o) ≡ option_map (λ b. r_frame (under tag b)) (told.first_of body o)
first_pending tag body None = refl
first_pending tag body (Some first) = refl

settled_pending : (w : Wait) (body : RBody) → settled_by (r_frame (under w.tag body)) (pending w) ≡ pending (told.settled_by body w)
settled_pending w body = ap (λ (o : Option (List ℕ)). record { tag = w.tag; fid = w.fid; count = w.count; reply = o }) (first_pending w.tag body w.reply)

tag_pending : (tag : ℕ) (body : RBody) (ws : List Wait) → settle_tag tag (r_frame (under tag body)) (map pending ws) ≡ map pending (told.settle_tag tag body ws)
tag_pending tag body [] = refl
tag_pending tag body (w ∷ ws) = elim (cases_Bool (eqb w.tag tag)) [
  | inl is ↦
      let frame : r_frame (under tag body) ≡ r_frame (under w.tag body) = ap (λ (t : ℕ). r_frame (under t body)) (sym (eqb-true w.tag tag is)) in
      rw is (ap (λ (p : Pending). p ∷ map pending ws) (ap (λ (f : List ℕ). settled_by f (pending w)) frame ∙ settled_pending w body))
  | inr is ↦ rw is (ap (λ (ps : List Pending). pending w ∷ ps) (tag_pending tag body ws))
]

fid_pending : (fid : ℕ) (ws : List Wait) → map (settle_fid fid given_up) (map pending ws) ≡ map pending (map (told.settle_fid fid fid_given_up) ws)
fid_pending fid [] = refl
fid_pending fid (w ∷ ws) = elim (cases_Bool (eqb w.fid fid)) [
  | inl is ↦ rw (is, settled_pending w fid_given_up) (ap (λ (ps : List Pending). pending (told.settled_by fid_given_up w) ∷ ps) (fid_pending fid ws))
  | inr is ↦ rw is (ap (λ (ps : List Pending). pending w ∷ ps) (fid_pending fid ws))
]

-- ---- replies that are left

more_left : {X : Type 0} (n : ℕ) (xs ys : List X) → n ≤ length ys → n ≤ length (xs ++ ys)
more_left n xs ys le = omega (arith, le, length-append xs ys)

-- no more were taken than were given
taken_given : (done : List Deed) (conn : ℕ) → taken done conn ≤ length (replies done conn)
taken_given [] conn = omega arith
taken_given (OfFids at d ∷ done) conn = taken_given done conn
taken_given (OfKeys at d ∷ done) conn = taken_given done conn
taken_given (OfConnection at d ∷ done) conn = taken_given done conn
taken_given (OfTalk conv call ∷ done) conn = taken_given done conn
taken_given (OfPrompts kind call ∷ done) conn = taken_given done conn
taken_given (OfLog call ∷ done) conn = taken_given done conn
taken_given (Raised conv ∷ done) conn = taken_given done conn
taken_given (HandedOut ∷ done) conn = taken_given done conn
taken_given (DropTaken ∷ done) conn = taken_given done conn
taken_given (Halted ∷ done) conn = taken_given done conn
taken_given (Swept ∷ done) conn = more_left (taken done conn) (reverse (filter_map reply_in (waits done conn))) (replies done conn) (taken_given done conn)
taken_given (OfReplies at (Awaited tag fid count) ∷ done) conn = taken_given done conn
taken_given (OfReplies at (Settled tag body) ∷ done) conn = taken_given done conn
taken_given (OfReplies at (Flushed tag) ∷ done) conn = taken_given done conn
taken_given (OfReplies at (Answered tag body) ∷ done) conn = elim (cases_Bool (eqb at conn)) [
  | inl is ↦ rw is (omega (arith, taken_given done conn))
  | inr is ↦ rw is (taken_given done conn)
]
taken_given (OfReplies at Taken ∷ done) conn = elim (cases_Bool (eqb at conn)) [
  | inl is ↦ elim (cases_Bool (ltb (taken done conn) (length (replies done conn)))) [
    | inl left ↦ rw (is, left) (omega (arith, ltb-true _ _ left))
    | inr none ↦ rw (is, none) (taken_given done conn)
  ]
  | inr is ↦ rw is (taken_given done conn)
]

-- some more stand last
left_more : (n : ℕ) (rs more : List RMsg) → n ≤ length rs → drop n (reverse (more ++ rs)) ≡ drop n (reverse rs) ++ reverse more
left_more n rs more le = ap (drop n) (reverse-append more rs) ∙ drop-append-le n (reverse rs) (reverse more) (omega (arith, le, length-reverse rs))

-- the oldest is gone
left_less : (n : ℕ) (rs : List RMsg) → drop (cond (ltb n (length rs)) (n + 1) n) (reverse rs) ≡ drop 1 (drop n (reverse rs))
left_less n rs = here (ltb n (length rs)) refl
  where
    here : (b : Bool) → ltb n (length rs) ≡ b → drop (cond b (n + 1) n) (reverse rs) ≡ drop 1 (drop n (reverse rs))
    here true e = sym (drop-drop 1 n (reverse rs))
    here false e =
        let none : drop n (reverse rs) ≡ [] = drop_all n (reverse rs) (omega (arith, ltb-false _ _ e, length-reverse rs)) in
        none ∙ ap (drop 1) (sym none)

pub untaken_taken : (done : List Deed) (conn : ℕ) → untaken (OfReplies conn Taken ∷ done) conn ≡ drop 1 (untaken done conn)
untaken_taken done conn = rw (same conn) (left_less (taken done conn) (replies done conn))

frames_less : (rs : List RMsg) → drop 1 (map r_frame rs) ≡ map r_frame (drop 1 rs)
frames_less [] = refl
frames_less (r ∷ rs) = refl

-- ---- a deed of one connection

delivers_on : (done after : List Deed) (old new : Mailboxes) (conn : ℕ) (now : Mail) → Becomes old new conn now → new.settled ≡ has_settled after → ((q : ℕ) → was_hung after q ≡ false → was_hung done q ≡ false)
    → (was_hung after conn ≡ false → Keeps done conn (mail_at old conn) → Keeps after conn now)
    → ((q : ℕ) (m : Mail) → eqb conn q ≡ false → Keeps done q m → Keeps after q m) → Delivers done old → Delivers after new
delivers_on done after old new conn now b settled hung here others h = record {
  mails = λ q not_hung. elim (cases_Bool (eqb conn q)) [
    | inl is ↦
        let e : conn ≡ q = eqb-true conn q is in
        let stays : was_hung after conn ≡ false = subst (λ (n : ℕ). was_hung after n ≡ false) (sym e) not_hung in
        subst (λ (n : ℕ). Keeps after n (mail_at new n)) e (subst (λ (m : Mail). Keeps after conn m) (sym b.this) (here stays (h.mails conn (hung conn stays))))
    | inr is ↦ subst (λ (m : Mail). Keeps after q m) (sym (b.others q (λ e. false≢true (sym is ∙ eq-eqb conn q e)))) (others q (mail_at old q) is (h.mails q (hung q not_hung)))
  ];
  settled = settled;
}

pub answered_delivers : (done : List Deed) (old new : Mailboxes) (conn tag : ℕ) (body : RBody) (frame : List ℕ) → Becomes old new conn (pushed frame (mail_at old conn)) → new.settled ≡ old.settled → frame ≡ r_frame (under tag body)
    → Delivers done old → Delivers (OfReplies conn (Answered tag body) ∷ done) new
answered_delivers done old new conn tag body frame b settled spelled h =
    delivers_on done (OfReplies conn (Answered tag body) ∷ done) old new conn (pushed frame (mail_at old conn)) b (settled ∙ h.settled) (λ q s. s)
    (λ s k. record {
      replies = rw (same conn) (ap (λ (fs : List (List ℕ)). fs ++ frame ∷ []) k.replies ∙ (ap (λ (f : List ℕ). map r_frame (untaken done conn) ++ f ∷ []) spelled
          ∙ (sym (map-append r_frame (untaken done conn) (under tag body ∷ []))
          ∙ ap (λ (rs : List RMsg). map r_frame rs) (sym (left_more (taken done conn) (replies done conn) (under tag body ∷ []) (taken_given done conn))))));
      waits = k.waits;
    })
    (λ q m is k. record { replies = rw is k.replies; waits = k.waits }) h

pub taken_delivers : (done : List Deed) (old new : Mailboxes) (conn : ℕ) → Becomes old new conn (popped (mail_at old conn)) → new.settled ≡ old.settled → Delivers done old → Delivers (OfReplies conn Taken ∷ done) new
taken_delivers done old new conn b settled h =
    delivers_on done (OfReplies conn Taken ∷ done) old new conn (popped (mail_at old conn)) b (settled ∙ h.settled) (λ q s. s)
    (λ s k. record {
      replies = rw (same conn) (ap (drop 1) k.replies ∙ (frames_less (untaken done conn) ∙ ap (λ (rs : List RMsg). map r_frame rs) (sym (left_less (taken done conn) (replies done conn)))));
      waits = k.waits;
    })
    (λ q m is k. record { replies = rw is k.replies; waits = k.waits }) h

pub awaited_delivers : (done : List Deed) (old new : Mailboxes) (conn tag fid count : ℕ) → Becomes old new conn (awaited tag fid count (mail_at old conn)) → new.settled ≡ old.settled → Delivers done old → Delivers (OfReplies conn (Awaited tag fid count) ∷ done) new
awaited_delivers done old new conn tag fid count b settled h =
    let wait : Wait = record { tag = tag; fid = fid; count = count; reply = None } in
    delivers_on done (OfReplies conn (Awaited tag fid count) ∷ done) old new conn (awaited tag fid count (mail_at old conn)) b (settled ∙ h.settled) (λ q s. s)
    (λ s k. record {
      replies = k.replies;
      waits = rw (same conn) (ap (λ (ps : List Pending). ps ++ pending wait ∷ []) k.waits ∙ sym (map-append pending (waits done conn) (wait ∷ [])));
    })
    (λ q m is k. record { replies = k.replies; waits = rw is k.waits }) h

pub settled_delivers : (done : List Deed) (old new : Mailboxes) (conn tag : ℕ) (body : RBody) (frame : List ℕ) → was_hung done conn ≡ false → Becomes old new conn (with_settled tag frame (mail_at old conn)) → new.settled ≡ (has_tag tag (mail_at old conn).waits || old.settled) → frame ≡ r_frame (under tag body)
    → Delivers done old → Delivers (OfReplies conn (Settled tag body) ∷ done) new
settled_delivers done old new conn tag body frame live b settled spelled h =
    delivers_on done (OfReplies conn (Settled tag body) ∷ done) old new conn (with_settled tag frame (mail_at old conn)) b
    (settled ∙ (ap (λ (s : Bool). has_tag tag (mail_at old conn).waits || s) h.settled ∙ ap (λ (s : Bool). s || has_settled done) (ap (has_tag tag) (h.mails conn live).waits ∙ tags_pending tag (waits done conn)))) (λ q s. s)
    (λ s k. record {
      replies = k.replies;
      waits = rw (same conn) (ap (λ (f : List ℕ). settle_tag tag f (mail_at old conn).waits) spelled ∙ (ap (settle_tag tag (r_frame (under tag body))) k.waits ∙ tag_pending tag body (waits done conn)));
    })
    (λ q m is k. record { replies = k.replies; waits = rw is k.waits }) h

pub clunked_delivers : (done : List Deed) (old new : Mailboxes) (conn fid : ℕ) → was_hung done conn ≡ false → Becomes old new conn (with_fid_settled fid given_up (mail_at old conn)) → new.settled ≡ (has_fid fid (mail_at old conn).waits || old.settled)
    → Delivers done old → Delivers (OfFids conn (Clunked fid) ∷ done) new
clunked_delivers done old new conn fid live b settled h =
    delivers_on done (OfFids conn (Clunked fid) ∷ done) old new conn (with_fid_settled fid given_up (mail_at old conn)) b
    (settled ∙ (ap (λ (s : Bool). has_fid fid (mail_at old conn).waits || s) h.settled ∙ ap (λ (s : Bool). s || has_settled done) (ap (has_fid fid) (h.mails conn live).waits ∙ fids_pending fid (waits done conn)))) (λ q s. s)
    (λ s k. record {
      replies = k.replies;
      waits = rw (same conn) (ap (map (settle_fid fid given_up)) k.waits ∙ fid_pending fid (waits done conn));
    })
    (λ q m is k. record { replies = k.replies; waits = rw is k.waits }) h

pub flushed_delivers : (done : List Deed) (old new : Mailboxes) (conn tag : ℕ) → Becomes old new conn (flushed tag (mail_at old conn)) → new.settled ≡ old.settled → Delivers done old → Delivers (OfReplies conn (Flushed tag) ∷ done) new
flushed_delivers done old new conn tag b settled h =
    delivers_on done (OfReplies conn (Flushed tag) ∷ done) old new conn (flushed tag (mail_at old conn)) b (settled ∙ h.settled) (λ q s. s)
    (λ s k. record {
      replies = k.replies;
      waits = rw (same conn) (ap (λ (ps : List Pending). filter (λ wait. not (wait.tag == tag)) ps) k.waits ∙ flushed_pending tag (waits done conn));
    })
    (λ q m is k. record { replies = k.replies; waits = rw is k.waits }) h

pub versioned_delivers : (done : List Deed) (old new : Mailboxes) (conn : ℕ) (msize : Option ℕ) → Becomes old new conn (without_waits (mail_at old conn)) → new.settled ≡ old.settled → Delivers done old → Delivers (OfFids conn (Versioned msize) ∷ done) new
versioned_delivers done old new conn msize b settled h =
    delivers_on done (OfFids conn (Versioned msize) ∷ done) old new conn (without_waits (mail_at old conn)) b (settled ∙ h.settled) (λ q s. s)
    (λ s k. record { replies = k.replies; waits = rw (same conn) refl })
    (λ q m is k. record { replies = k.replies; waits = rw is k.waits }) h

hung_before : (a : Bool) (b : Bool) → (a || b) ≡ false → b ≡ false
hung_before true b e = absurd (false≢true (sym e))
hung_before false b e = e

pub hung_delivers : (done : List Deed) (old new : Mailboxes) (conn : ℕ) → Becomes old new conn no_mail → new.settled ≡ old.settled → Delivers done old → Delivers (OfConnection conn Hung ∷ done) new
hung_delivers done old new conn b settled h =
    delivers_on done (OfConnection conn Hung ∷ done) old new conn no_mail b (settled ∙ h.settled) (λ q s. hung_before (eqb conn q) (was_hung done q) s)
    (λ s k. absurd (false≢true (sym s ∙ rw (same conn) refl)))
    (λ q m is k. record { replies = k.replies; waits = rw is k.waits }) h

-- ---- a sweep

abbrev wait_of : Wait → Option RBody → Wait
wait_of w o = record { tag = w.tag; fid = w.fid; count = w.count; reply = o }

replies_more : (w : Wait) (o : Option RBody) (ws : List Wait) → filter_map (λ wait. wait.reply) (map pending ws) ≡ map r_frame (filter_map reply_in ws)
    → filter_map (λ wait. wait.reply) (map pending (wait_of w o ∷ ws)) ≡ map r_frame (filter_map reply_in (wait_of w o ∷ ws))
replies_more w None ws h = h
replies_more w (Some body) ws h = ap (λ (fs : List (List ℕ)). r_frame (under w.tag body) ∷ fs) h

replies_pending : (ws : List Wait) → filter_map (λ wait. wait.reply) (map pending ws) ≡ map r_frame (filter_map reply_in ws)
replies_pending [] = refl
replies_pending (w ∷ ws) = replies_more w w.reply ws (replies_pending ws)

left_pending_more : (w : Wait) (o : Option RBody) (ws : List Wait) → filter is_unsettled (map pending ws) ≡ map pending (filter told.is_unsettled ws) → filter is_unsettled (map pending (wait_of w o ∷ ws)) ≡ map pending (filter told.is_unsettled (wait_of w o ∷ ws))
left_pending_more w None ws h = ap (λ (ps : List Pending). pending (wait_of w None) ∷ ps) h
left_pending_more w (Some body) ws h = h

left_pending : (ws : List Wait) → filter is_unsettled (map pending ws) ≡ map pending (filter told.is_unsettled ws)
left_pending [] = refl
left_pending (w ∷ ws) = left_pending_more w w.reply ws (left_pending ws)

pub swept_delivers : (done : List Deed) (old new : Mailboxes) → has_settled done ≡ true → ((conn : ℕ) → mail_at new conn ≡ swept (mail_at old conn)) → new.settled ≡ false → Delivers done old → Delivers (told.swept done) new
swept_delivers done old new some all settled h = rw some (record {
  mails = λ conn live.
      let k = h.mails conn live in
      let rs = filter_map reply_in (waits done conn) in
      subst (λ (m : Mail). Keeps (Swept ∷ done) conn m) (sym (all conn)) (record {
        replies = ap (λ (fs : List (List ℕ)). fs ++ filter_map (λ wait. wait.reply) (mail_at old conn).waits) k.replies
            ∙ (ap (λ (ps : List Pending). map r_frame (untaken done conn) ++ filter_map (λ wait. wait.reply) ps) k.waits
            ∙ (ap (λ (fs : List (List ℕ)). map r_frame (untaken done conn) ++ fs) (replies_pending (waits done conn))
            ∙ (sym (map-append r_frame (untaken done conn) rs)
            ∙ ap (λ (ms : List RMsg). map r_frame ms) (ap (λ (ms : List RMsg). untaken done conn ++ ms) (sym (reverse-reverse rs)) ∙ sym (left_more (taken done conn) (replies done conn) (reverse rs) (taken_given done conn))))));
        waits = ap (filter is_unsettled) k.waits ∙ left_pending (waits done conn);
      });
  settled = settled;
})

pub unswept_delivers : (done : List Deed) (old : Mailboxes) → has_settled done ≡ false → Delivers done old → Delivers (told.swept done) old
unswept_delivers done old none h = rw none h

pub swept_in : (o : Option Mail) → mail_in (option_map swept o) ≡ swept (mail_in o)
swept_in None = refl
swept_in (Some mail) = refl

-- ---- a tag

pub tag_waits : (done : List Deed) (m : Mailboxes) (conn tag : ℕ) → was_hung done conn ≡ false → Delivers done m → has_tag tag (mail_at m conn).waits ≡ waits_under done conn tag
tag_waits done m conn tag live h = ap (has_tag tag) (h.mails conn live).waits ∙ tags_pending tag (waits done conn)

-- ---- reads of a fid

pub fid_waits : (done : List Deed) (m : Mailboxes) (conn fid : ℕ) → was_hung done conn ≡ false → Delivers done m → has_fid fid (mail_at m conn).waits ≡ waits_for done conn fid
fid_waits done m conn fid live h = ap (has_fid fid) (h.mails conn live).waits ∙ fids_pending fid (waits done conn)

pub waits_counted : (done : List Deed) (m : Mailboxes) (conn : ℕ) → was_hung done conn ≡ false → Delivers done m → length (mail_at m conn).waits ≡ length (waits done conn)
waits_counted done m conn live h = ap (λ (ps : List Pending). length ps) (h.mails conn live).waits ∙ length-map (waits done conn) pending

unsettled_pending : (tag : ℕ) (o : Option RBody) → is_some (option_map (λ body. r_frame (under tag body)) o) ≡ is_some o
unsettled_pending tag None = refl
unsettled_pending tag (Some body) = refl

abbrev is_reader_of : ℕ → Wait → Bool
is_reader_of fid wait = wait.fid == fid && told.is_unsettled wait

reader_more : (fid : ℕ) (w : Wait) (ws : List Wait) (b : Bool) → is_reader_of fid w ≡ b → option_map read_of (find (is_reader_of fid) ws) ≡ first_reader fid (map pending ws)
    → option_map read_of (find (is_reader_of fid) (w ∷ ws)) ≡ first_reader fid (map pending (w ∷ ws))
reader_more fid w ws b e more = here b e
  where
    same_test : is_reader fid (pending w) ≡ is_reader_of fid w
    same_test = ap (λ (s : Bool). (w.fid == fid) && not s) (unsettled_pending w.tag w.reply)

    here : (b : Bool) → is_reader_of fid w ≡ b → option_map read_of (find (is_reader_of fid) (w ∷ ws)) ≡ first_reader fid (map pending (w ∷ ws))
    here true e = rw (same_test, e) refl
    here false e = rw (same_test, e) more

reader_pending : (fid : ℕ) (ws : List Wait) → option_map read_of (find (is_reader_of fid) ws) ≡ first_reader fid (map pending ws)
reader_pending fid [] = refl
reader_pending fid (w ∷ ws) = reader_more fid w ws (is_reader_of fid w) refl (reader_pending fid ws)

pub reader_waits : (done : List Deed) (m : Mailboxes) (conn fid : ℕ) → was_hung done conn ≡ false → Delivers done m
    → option_map read_of (find (λ wait. wait.fid == fid && told.is_unsettled wait) (waits done conn)) ≡ first_reader fid (mail_at m conn).waits
reader_waits done m conn fid live h = reader_pending fid (waits done conn) ∙ sym (ap (first_reader fid) (h.mails conn live).waits)

-- ---- deeds that concern no reply and no read that waits

pub talk_delivers : (done : List Deed) (m : Mailboxes) (conv : ℕ) (call : Call) → Delivers done m → Delivers (OfTalk conv call ∷ done) m
talk_delivers done m conv call h = record { mails = λ conn live. record { replies = (h.mails conn live).replies; waits = (h.mails conn live).waits }; settled = h.settled }

pub prompts_delivers : (done : List Deed) (m : Mailboxes) (kind : PromptKind) (call : side.Call) → Delivers done m → Delivers (OfPrompts kind call ∷ done) m
prompts_delivers done m kind call h = record { mails = λ conn live. record { replies = (h.mails conn live).replies; waits = (h.mails conn live).waits }; settled = h.settled }

pub log_delivers : (done : List Deed) (m : Mailboxes) (call : side.LogCall) → Delivers done m → Delivers (OfLog call ∷ done) m
log_delivers done m call h = record { mails = λ conn live. record { replies = (h.mails conn live).replies; waits = (h.mails conn live).waits }; settled = h.settled }

pub raised_delivers : (done : List Deed) (m : Mailboxes) (conv : ℕ) → Delivers done m → Delivers (Raised conv ∷ done) m
raised_delivers done m conv h = record { mails = λ conn live. record { replies = (h.mails conn live).replies; waits = (h.mails conn live).waits }; settled = h.settled }

pub handed_delivers : (done : List Deed) (m : Mailboxes) → Delivers done m → Delivers (HandedOut ∷ done) m
handed_delivers done m h = record { mails = λ conn live. record { replies = (h.mails conn live).replies; waits = (h.mails conn live).waits }; settled = h.settled }

pub keys_delivers : (done : List Deed) (m : Mailboxes) (conn : ℕ) (deed : KeyDeed) → Delivers done m → Delivers (OfKeys conn deed ∷ done) m
keys_delivers done m conn deed h = record { mails = λ q live. record { replies = (h.mails q live).replies; waits = (h.mails q live).waits }; settled = h.settled }

pub entered_delivers : (done : List Deed) (m : Mailboxes) (conn : ℕ) → Delivers done m → Delivers (OfConnection conn Entered ∷ done) m
entered_delivers done m conn h = record { mails = λ q live. record { replies = (h.mails q live).replies; waits = (h.mails q live).waits }; settled = h.settled }

pub attached_delivers : (done : List Deed) (m : Mailboxes) (conn fid : ℕ) → Delivers done m → Delivers (OfFids conn (Attached fid) ∷ done) m
attached_delivers done m conn fid h = record { mails = λ q live. record { replies = (h.mails q live).replies; waits = (h.mails q live).waits }; settled = h.settled }

pub walked_delivers : (done : List Deed) (m : Mailboxes) (conn fid : ℕ) (node : Node) → Delivers done m → Delivers (OfFids conn (Walked fid node) ∷ done) m
walked_delivers done m conn fid node h = record { mails = λ q live. record { replies = (h.mails q live).replies; waits = (h.mails q live).waits }; settled = h.settled }

pub opened_delivers : (done : List Deed) (m : Mailboxes) (conn fid mode : ℕ) → Delivers done m → Delivers (OfFids conn (Opened fid mode) ∷ done) m
opened_delivers done m conn fid mode h = record { mails = λ q live. record { replies = (h.mails q live).replies; waits = (h.mails q live).waits }; settled = h.settled }

pub listed_delivers : (done : List Deed) (m : Mailboxes) (conn fid : ℕ) → Delivers done m → Delivers (OfFids conn (Listed fid) ∷ done) m
listed_delivers done m conn fid h = record { mails = λ q live. record { replies = (h.mails q live).replies; waits = (h.mails q live).waits }; settled = h.settled }

pub browsed_delivers : (done : List Deed) (m : Mailboxes) (conn fid next : ℕ) → Delivers done m → Delivers (OfFids conn (Browsed fid next) ∷ done) m
browsed_delivers done m conn fid next h = record { mails = λ q live. record { replies = (h.mails q live).replies; waits = (h.mails q live).waits }; settled = h.settled }
