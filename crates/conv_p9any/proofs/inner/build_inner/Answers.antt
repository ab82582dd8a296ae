use Rattle.std.proofs.Common.{◌≡◌, true, length, ap, ◌∙◌, arith}
use Rattle.attr_tuples.specs.declared.attr.Attr.{Attr}
use Rattle.roles.specs.Starts.{fits_start}
use Rattle.conv_p9any.proofs.StartLemmas.{left_few}
use Rattle.conv_p9any.proofs.inner.build_inner.Goals as goal

pub put_left-requires-clause-room : goal.put_left-requires-clause-room
put_left-requires-clause-room c =
    let few : fits_start c.attrs.result.now ≡ true = ap fits_start c.attrs.ensures.same ∙ c.args.own.now.fits in
    let none : length c.new-template.result ≡ 0 = ap (length {A = Attr}) c.new-template.ensures in
    omega (arith, left_few c.attrs.result.now few, c.in_ok-put_given.ensures.size, c.in_ok-put_given-2.ensures.size, none)
