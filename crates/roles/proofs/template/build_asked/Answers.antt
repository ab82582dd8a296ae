use Rattle.std.proofs.Common.{◌≡◌, true, length, ap, ◌∙◌, arith}
use Rattle.attr_tuples.specs.declared.attr.Attr.{Attr}
use Rattle.roles.specs.Starts.{fits_start}
use Rattle.roles.proofs.TemplateLemmas.{others_few}
use Rattle.roles.proofs.template.build_asked.Goals as goal

pub put_others-requires-clause-room : goal.put_others-requires-clause-room
put_others-requires-clause-room c =
    let few : fits_start c.attrs.result.now ≡ true = ap fits_start c.attrs.ensures.same ∙ c.requires.few in
    let none : length c.new-asked.result ≡ 0 = ap (length {A = Attr}) c.new-asked.ensures in
    omega (arith, others_few c.args.role.now c.attrs.result.now few, c.in_ok-put_given.ensures.size, c.in_ok-put_dom.ensures.size, none)

pub put_user-requires : goal.put_user-requires
put_user-requires c =
    let few : fits_start c.attrs.result.now ≡ true = ap fits_start c.attrs.ensures.same ∙ c.requires.few in
    let none : length c.new-asked.result ≡ 0 = ap (length {A = Attr}) c.new-asked.ensures in
    record { room = omega (arith, others_few c.args.role.now c.attrs.result.now few, c.in_ok-put_given.ensures.size, c.in_ok-put_dom.ensures.size, c.in_ok-put_others.ensures.size, none) }

pub put_ask_dom-requires : goal.put_ask_dom-requires
put_ask_dom-requires c =
    let few : fits_start c.attrs.result.now ≡ true = ap fits_start c.attrs.ensures.same ∙ c.requires.few in
    let none : length c.new-asked.result ≡ 0 = ap (length {A = Attr}) c.new-asked.ensures in
    record { room = omega (arith, others_few c.args.role.now c.attrs.result.now few, c.in_ok-put_given.ensures.size, c.in_ok-put_dom.ensures.size, c.in_ok-put_others.ensures.size, c.in_ok-put_user.ensures.size, none) }
