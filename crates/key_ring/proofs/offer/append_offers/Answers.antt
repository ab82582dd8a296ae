use Rattle.std.proofs.Common.{List, ◌≡◌, ◌≤◌, ◌<◌, ◌-◌, None, length, drop, suc, rules, sym, ap, ◌∙◌, arith}
use Rattle.std.specs.Borrow.{Bor}
use Rattle.std.specs.Prelude.{option_map}
use Rattle.wire_base.specs.declared.text.Text.{Text}
use Rattle.key_lists.specs.Lists.{KeyEntry}
use Rattle.key_lists.specs.Listing.{dom_of, doms_of}
use Rattle.key_ring.specs.Steps.{unless_seen}
use Rattle.key_ring.proofs.OfferLemmas.{IsPutOut, none_so_far, so_far_kept, so_far_next, put_out_front, put_out_keys, doms_at, doms_more}
use Rattle.key_ring.proofs.offer.append_offers.Goals as goal
use Rattle.key_ring.proofs.offer.append_offers.Goals.{in-Some+else-len-saturating_sub+in_ok-append_offer, in_default}

pub loop-at-init : goal.loop-at-init
loop-at-init c = none_so_far c.args.out.now

ends_here : (c : goal.Then-len-saturating_sub) → IsPutOut (doms_of c.args.template.now c.args.role.now c.args.keys.now) c.args.out.now c.loop-at.out c.loop-at.count
ends_here c =
    let dom_in = dom_of c.args.template.now c.args.role.now in
    let new = c.in-Some.ensures ∙ ap (λ (ks : List KeyEntry). unless_seen (doms_of c.args.template.now c.args.role.now ks) (dom_in c.index-keys-at.result)) c.split_at.ensures.front in
    let no_room : c.loop-at.room - 6 ≤ length c.in-Some.dom.now = omega (arith, c.saturating_sub.ensures, c.len.ensures, c.if-len-saturating_sub.true) in
    put_out_front _ _ (doms_of c.args.template.now c.args.role.now (drop (suc c.loop-at.at) c.args.keys.now)) (dom_in c.index-keys-at.result) c.in-Some.dom.now c.args.out.now c.loop-at.out c.loop-at.count c.loop-at.room
    (doms_at dom_in c.args.keys.now c.loop-at.at c.index-keys-at.result c.loop-at-test.true c.index-keys-at.is) new no_room c.loop-at.invariant

pub returns-then-len-saturating_sub-clause-ok : goal.returns-then-len-saturating_sub-clause-ok
returns-then-len-saturating_sub-clause-ok c = (ends_here c).text_is

pub returns-then-len-saturating_sub-clause-count : goal.returns-then-len-saturating_sub-clause-count
returns-then-len-saturating_sub-clause-count c = (ends_here c).counted

pub loop-at-preserved : goal.loop-at-preserved
loop-at-preserved c =
    let dom_in = dom_of c.args.template.now c.args.role.now in
    let key = c.index-keys-at.result in
    let more = doms_more dom_in c.args.keys.now c.loop-at.at key c.loop-at-test.true c.index-keys-at.is in
    let front = ap (λ (ks : List KeyEntry). unless_seen (doms_of c.args.template.now c.args.role.now ks) (dom_in key)) c.split_at.ensures.front in
    elim c.match-find_new_dom.branch [
      | in-Some+else-len-saturating_sub+in_ok-append_offer w ↦
          (let fits : length w.in-Some.dom.now < c.loop-at.room - 6 = omega (arith, w.saturating_sub.ensures, w.len.ensures, w.if-len-saturating_sub.false) in
          so_far_next _ _ (dom_in key) w.in-Some.dom.now c.args.out.now c.loop-at.out _ c.loop-at.count c.loop-at.room _ _ more (w.in-Some.ensures ∙ front) fits c.loop-at.invariant
          (w.out-is ∙ w.in_ok-append_offer.ensures.ok) w.count-is (omega (arith, w.room-is, w.len-in-Some.ensures)))
      | in_default w ↦
          (let none : c.find_new_dom.result ≡ None = search rules in
          let nothing = sym (ap (option_map (λ (dom : Bor Text). dom.now)) none) ∙ c.find_new_dom.ensures in
          so_far_kept _ _ (dom_in key) c.args.out.now c.loop-at.out _ c.loop-at.count c.loop-at.room _ _ more (nothing ∙ front) c.loop-at.invariant w.out-is w.count-is w.room-is)
    ]

pub returns-clause-ok : goal.returns-clause-ok
returns-clause-ok c = (put_out_keys (dom_of c.args.template.now c.args.role.now) c.args.keys.now c.loop-at.at c.args.out.now c.loop-at.out c.loop-at.count c.loop-at.room (omega arith) c.loop-at.invariant).text_is

pub returns-clause-count : goal.returns-clause-count
returns-clause-count c = (put_out_keys (dom_of c.args.template.now c.args.role.now) c.args.keys.now c.loop-at.at c.args.out.now c.loop-at.out c.loop-at.count c.loop-at.room (omega arith) c.loop-at.invariant).counted
