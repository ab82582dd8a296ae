-- What is kept of a connection, after deeds that don't concern its fids; and conversations that stand.
use Rattle.std.proofs.Common.{◌≡◌, ℕ, List, [], ◌∷◌, true, eqb, ◌&&◌, Option, Some, None, refl, sym, ap, ◌∙◌, inl, inr}
use Rattle.std.specs.Prelude.{find, option_map}
use Rattle.std.proofs.lemmas.Bool.{cases_Bool, eq-eqb}
use Rattle.agent_history.specs.Deeds.{Deed, KeyDeed, OfKeys}
use Rattle.agent_history.specs.Conversations.{Speaker, all_withdrawn, closed, conv_of, ended_by, given_up_by, speakers}
use Rattle.agent_talks.specs.Speaks.{is_among, stands}
use Rattle.agent_requests.specs.declared.connection.Connection.{Connection}
use Rattle.file_tree.specs.Held.{Table, fid_at, held_in}
use Rattle.agent_requests.specs.Connections.{Keeps, SameKept, msize_in, text_in}
use Rattle.agent_requests.specs.RpcRequests.{IsOpen}
use Rattle.side_files.specs.declared.line.PromptKind.TheVariants as k
use Rattle.agent_requests.proofs.OwnDeeds.{OfAll, closed_all, withdrawn_talks}

pub keeps_all : (conn : ℕ) (c : Connection) → OfAll (λ done. Keeps done conn c)
keeps_all conn c = record {
  talks = record {
    talk = λ conv call done k. record { live = k.live; msize = k.msize; fids = k.fids; held = k.held; texts = k.texts };
    asked = λ kind call done k. record { live = k.live; msize = k.msize; fids = k.fids; held = k.held; texts = k.texts };
    logged = λ call done k. record { live = k.live; msize = k.msize; fids = k.fids; held = k.held; texts = k.texts };
    raised = λ conv done k. record { live = k.live; msize = k.msize; fids = k.fids; held = k.held; texts = k.texts };
  };
  replies = λ at deed done k. record { live = k.live; msize = k.msize; fids = k.fids; held = k.held; texts = k.texts };
  swept = λ done k. record { live = k.live; msize = k.msize; fids = k.fids; held = k.held; texts = k.texts };
}

pub keeps_keys : (conn : ℕ) (c : Connection) (deed : KeyDeed) (done : List Deed) → Keeps done conn c → Keeps (OfKeys conn deed ∷ done) conn c
keeps_keys conn c deed done k = record { live = k.live; msize = k.msize; fids = k.fids; held = k.held; texts = k.texts }

-- a deed by which fids are given up changes what is kept, and what comes before and behind it doesn't
pub keeps_ended : (deed : Deed) (done : List Deed) (conn : ℕ) (c d : Connection) → ((now : List Deed) → Keeps now conn c → Keeps (deed ∷ now) conn d) → Keeps done conn c → Keeps (given_up_by deed done) conn d
keeps_ended deed done conn c d ends h =
    let withdrawn : List Deed = all_withdrawn (ended_by deed done) done in
    let one : List Deed = deed ∷ withdrawn in
    let all : OfAll (λ now. Keeps now conn d) = keeps_all conn d in
    closed_all (λ now. Keeps now conn d) all k.Needkey (closed k.Confirm one)
    (closed_all (λ now. Keeps now conn d) all k.Confirm one (ends withdrawn (withdrawn_talks (λ now. Keeps now conn c) (keeps_all conn c).talks (ended_by deed done) done h)))

-- ---- what stays the same

pub keeps_still : (done : List Deed) (conn : ℕ) (c d : Connection) → SameKept c d → Keeps done conn c → Keeps done conn d
keeps_still done conn c d s k = record {
  live = k.live;
  msize = ap msize_in s.phase ∙ k.msize;
  fids = λ fid. ap (λ (table : Table). fid_at table fid) s.fids ∙ k.fids fid;
  held = ap held_in s.fids ∙ k.held;
  texts = λ fid. ap text_in (s.texts fid) ∙ k.texts fid;
}

-- ---- conversations that stand

some_is : (a b : ℕ) → Some a ≡ Some b → a ≡ b
some_is a b e = cc

-- the conversation that a fid has open stands
pub found_stands : (done : List Deed) (conn fid conv : ℕ) → conv_of done conn fid ≡ Some conv → stands done conv ≡ true
found_stands done conn fid conv e = here (speakers done) e
  where
    here : (xs : List Speaker) → option_map (λ (s : Speaker). s.conv) (find (λ s. eqb s.conn conn && eqb s.fid fid) xs) ≡ Some conv → is_among xs conv ≡ true
    here [] e = absurd cc
    here (x ∷ xs) e = elim (cases_Bool (eqb x.conn conn && eqb x.fid fid)) [
      | inl is ↦ let same : x.conv ≡ conv = some_is x.conv conv (rw is at e) in rw (eq-eqb x.conv conv same) refl
      | inr is ↦ elim (cases_Bool (eqb x.conv conv)) [
        | inl found ↦ rw found refl
        | inr other ↦ rw other (here xs (rw is at e))
      ]
    ]

-- what a fid of a connection has open stands
pub open_at : (done : List Deed) (conn fid : ℕ) (conv : Option ℕ) → conv ≡ conv_of done conn fid → IsOpen done conv
open_at done conn fid None e = tt
open_at done conn fid (Some conv) e = found_stands done conn fid conv (sym e)
