-- What is shared, part by part, and what deeds of some kinds leave of it.
use Rattle.std.proofs.Common.{◌≡◌, ℕ, List, [], ◌∷◌, Bool, true, false, cond, eqb, Option, Some, refl, sym, subst, ◌∙◌}
use Rattle.std.specs.Prelude.{find}
use Rattle.key_lists.specs.Lists.{KeyList}
use Rattle.talks.specs.Standings.{Phase, Resting, Waiting, Seeking, OnConfirm, OnNeedkey, OnServer, Kept}
use Rattle.agent_history.specs.Deeds.{Deed, KeyDeed, ReplyDeed, OfKeys, OfReplies, Switched, keys_of, was_hung}
use Rattle.agent_history.specs.Replies.{swept}
use Rattle.agent_history.specs.Conversations.{Speaker, speaker_of, speakers, then_took}
use Rattle.agent_talks.specs.declared.tell.Told.{Told as Telling}
use Rattle.agent_talks.specs.Speaks.{stands}
use Rattle.agent_talks.specs.Tells.{TellsBy}
use Rattle.mailboxes.specs.declared.mailboxes.Mailboxes.{Mailboxes}
use Rattle.mailboxes.specs.Deliveries.{Delivers, SameMail}
use Rattle.mailboxes.proofs.DeliveryLemmas as mail
use Rattle.agent_talks.specs.declared.standing.Conversations.{Conversations}
use Rattle.agent_talks.specs.Logging.{Logs}
use Rattle.agent_talks.proofs.DeedLemmas.{replies_logs, swept_logs}
use Rattle.agent_requests.specs.declared.holders.Holders.{Holders}
use Rattle.agent_requests.specs.declared.shared.Shared.{Shared}
use Rattle.agent_requests.specs.Sharing.{AllLive, AreLive, Holds, HoldersLive, SameShared, Shares}
use Rattle.agent_requests.proofs.OwnDeeds.{OfAll, OfTalks, swept_by, took_talks}

-- ---- holders and connections, which conversations and replies leave alone

pub holds_all : (h : Holders) → OfAll (λ done. Holds done h)
holds_all h = record {
  talks = record {
    talk = λ conv call done k. record { confirm = k.confirm; needkey = k.needkey; log = k.log };
    asked = λ kind call done k. record { confirm = k.confirm; needkey = k.needkey; log = k.log };
    logged = λ call done k. record { confirm = k.confirm; needkey = k.needkey; log = k.log };
    raised = λ conv done k. record { confirm = k.confirm; needkey = k.needkey; log = k.log };
  };
  replies = λ at deed done k. record { confirm = k.confirm; needkey = k.needkey; log = k.log };
  swept = λ done k. record { confirm = k.confirm; needkey = k.needkey; log = k.log };
}

pub holds_keys : (conn : ℕ) (h : Holders) (deed : KeyDeed) (done : List Deed) → Holds done h → Holds (OfKeys conn deed ∷ done) h
holds_keys conn h deed done k = record { confirm = k.confirm; needkey = k.needkey; log = k.log }

pub ring_all : (keys : KeyList) → OfAll (λ done. keys ≡ keys_of done)
ring_all keys = record {
  talks = record { talk = λ conv call done h. h; asked = λ kind call done h. h; logged = λ call done h. h; raised = λ conv done h. h };
  replies = λ at deed done h. h;
  swept = λ done h. h;
}

pub live_all : OfAll AreLive
live_all = record {
  talks = record { talk = λ conv call done h. h; asked = λ kind call done h. h; logged = λ call done h. h; raised = λ conv done h. h };
  replies = λ at deed done h. h;
  swept = λ done h. h;
}

pub held_all : OfAll HoldersLive
held_all = record {
  talks = record { talk = λ conv call done h. h; asked = λ kind call done h. h; logged = λ call done h. h; raised = λ conv done h. h };
  replies = λ at deed done h. h;
  swept = λ done h. h;
}

pub hung_all : (conn : ℕ) → OfAll (λ done. was_hung done conn ≡ false)
hung_all conn = record {
  talks = record { talk = λ conv call done h. h; asked = λ kind call done h. h; logged = λ call done h. h; raised = λ conv done h. h };
  replies = λ at deed done h. h;
  swept = λ done h. h;
}

pub stands_all : (conv : ℕ) → OfAll (λ done. stands done conv ≡ true)
stands_all conv = record {
  talks = record { talk = λ c call done h. h; asked = λ kind call done h. h; logged = λ call done h. h; raised = λ c done h. h };
  replies = λ at deed done h. h;
  swept = λ done h. h;
}

-- ---- replies, which conversations leave alone

pub mail_talks : (m : Mailboxes) → OfTalks (λ done. Delivers done m)
mail_talks m = record {
  talk = λ conv call done h. mail.talk_delivers done m conv call h;
  asked = λ kind call done h. mail.prompts_delivers done m kind call h;
  logged = λ call done h. mail.log_delivers done m call h;
  raised = λ conv done h. mail.raised_delivers done m conv h;
}

-- ---- what is shared, part by part

-- all but the conversations
pub record Rest (done : List Deed) (s : Shared) : Type 0 where
  pub ring : s.ring ≡ keys_of done
  pub holders : Holds done s.holders
  pub mail : Delivers done s.mailboxes
  pub live : AreLive done
  pub held : HoldersLive done

pub rest_of : (done : List Deed) (s : Shared) → Shares done s → Rest done s
rest_of done s h = record { ring = h.ring; holders = h.holders; mail = h.mail; live = h.live; held = h.held }

pub rest_talks : (s : Shared) → OfTalks (λ done. Rest done s)
rest_talks s =
    let holds = (holds_all s.holders).talks in
    let mails = mail_talks s.mailboxes in
    record {
      talk = λ conv call done h. record { ring = h.ring; holders = holds.talk conv call done h.holders; mail = mails.talk conv call done h.mail; live = h.live; held = h.held };
      asked = λ kind call done h. record { ring = h.ring; holders = holds.asked kind call done h.holders; mail = mails.asked kind call done h.mail; live = h.live; held = h.held };
      logged = λ call done h. record { ring = h.ring; holders = holds.logged call done h.holders; mail = mails.logged call done h.mail; live = h.live; held = h.held };
      raised = λ conv done h. record { ring = h.ring; holders = holds.raised conv done h.holders; mail = mails.raised conv done h.mail; live = h.live; held = h.held };
    }

abbrev pub with_talks : Shared → Conversations → Shared
with_talks s t = record { ring = s.ring; holders = s.holders; mailboxes = s.mailboxes; talks = t }

abbrev pub with_mail : Shared → Mailboxes → Shared
with_mail s m = record { ring = s.ring; holders = s.holders; mailboxes = m; talks = s.talks }

pub shares_with : (done : List Deed) (s : Shared) (t : Conversations) → Rest done s → Logs done t → Shares done (with_talks s t)
shares_with done s t rest logs = record { ring = rest.ring; holders = rest.holders; mail = rest.mail; talks = logs; live = rest.live; held = rest.held }

-- ---- deeds of one kind

-- a request or a read of a connection, whose mailboxes tell of it
pub replied_shares : (done : List Deed) (s : Shared) (m : Mailboxes) (conn : ℕ) (deed : ReplyDeed) → Delivers (OfReplies conn deed ∷ done) m → Shares done s → Shares (OfReplies conn deed ∷ done) (with_mail s m)
replied_shares done s m conn deed delivers h = record {
  ring = h.ring;
  holders = (holds_all s.holders).replies conn deed done h.holders;
  mail = delivers;
  talks = replies_logs done s.talks conn deed h.talks;
  live = h.live;
  held = h.held;
}

-- ---- what stays the same

pub same_mail : (m : Mailboxes) → SameMail m m
same_mail m = record { replies = λ conn. refl; waits = λ conn. refl; settled = refl }

pub same_shared : (s : Shared) → SameShared s s
same_shared s = record { ring = refl; holders = refl; mail = same_mail s.mailboxes; talks = λ done h. h }

pub mail_still : (done : List Deed) (m n : Mailboxes) → SameMail m n → Delivers done m → Delivers done n
mail_still done m n same d = record {
  mails = λ q live. let k = d.mails q live in record { replies = same.replies q ∙ k.replies; waits = same.waits q ∙ k.waits };
  settled = same.settled ∙ d.settled;
}

pub shares_still : (done : List Deed) (s u : Shared) → SameShared s u → Shares done s → Shares done u
shares_still done s u same h = record {
  ring = same.ring ∙ h.ring;
  holders = subst (λ (now : Holders). Holds done now) (sym same.holders) h.holders;
  mail = mail_still done s.mailboxes u.mailboxes same.mail h.mail;
  talks = same.talks done h.talks;
  live = h.live;
  held = h.held;
}

-- ---- who is live

live_found : (hung : ℕ → Bool) (test : Speaker → Bool) (xs : List Speaker) (s : Speaker) → AllLive hung xs → find test xs ≡ Some s → hung s.conn ≡ false
live_found hung test [] s h e = absurd cc
live_found hung test (x ∷ xs) s h e = here (test x) e (λ more. live_found hung test xs s h.1 more)
  where
    here : (b : Bool) → cond b (Some x) (find test xs) ≡ Some s → (find test xs ≡ Some s → hung s.conn ≡ false) → hung s.conn ≡ false
    here true e rest = let same : x ≡ s = cc in subst (λ (y : Speaker). hung y.conn ≡ false) same h.0
    here false e rest = rest e

pub live_speaker : (done : List Deed) (conv : ℕ) (s : Speaker) → AreLive done → speaker_of done conv ≡ Some s → was_hung done s.conn ≡ false
live_speaker done conv s live e = live_found (λ conn. was_hung done conn) (λ x. eqb x.conv conv) (speakers done) s live e

-- ---- a read is told an answer

pub tells_shares : (phase : Phase) (done : List Deed) (s : Shared) (t : Conversations) (conv count : ℕ) (o : Option Telling) → Rest done s → TellsBy (λ d. Logs d t) phase done conv count o → TellsBy (λ d. Shares d (with_talks s t)) phase done conv count o
tells_shares (Kept answer) done s t conv count o rest tells = (tells.0, shares_with (then_took conv count answer done) s t (took_talks (λ now. Rest now s) (rest_talks s) conv count answer done rest) tells.1)
tells_shares Resting done s t conv count o rest tells = (tells.0, shares_with done s t rest tells.1)
tells_shares (Waiting request) done s t conv count o rest tells = (tells.0, shares_with done s t rest tells.1)
tells_shares Seeking done s t conv count o rest tells = (tells.0, shares_with done s t rest tells.1)
tells_shares (OnConfirm serial) done s t conv count o rest tells = (tells.0, shares_with done s t rest tells.1)
tells_shares OnNeedkey done s t conv count o rest tells = (tells.0, shares_with done s t rest tells.1)
tells_shares OnServer done s t conv count o rest tells = (tells.0, shares_with done s t rest tells.1)

-- ---- a sweep

pub swept_shares : (last : List Deed) (s : Shared) (m : Mailboxes) → (Delivers last s.mailboxes → Delivers (swept last) m) → Shares last s → Shares (swept last) (with_mail s m)
swept_shares last s m sweeps h = record {
  ring = swept_by (λ now. s.ring ≡ keys_of now) (ring_all s.ring).swept last h.ring;
  holders = swept_by (λ now. Holds now s.holders) (holds_all s.holders).swept last h.holders;
  mail = sweeps h.mail;
  talks = swept_logs last s.talks h.talks;
  live = swept_by AreLive live_all.swept last h.live;
  held = swept_by HoldersLive held_all.swept last h.held;
}
