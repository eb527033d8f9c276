use borrow.Author.Rules.{rules}
use mathlib.Core.Path.{◌≡◌}
use lib.ListN.{length}
use mir.Syntax.{w8, w64}
use mir.Val.{Fits, SFits}
use mir.Facts.{to_z-of_z}
use Rattle.octets.proofs.Numbers.{fits_money}
use Rattle.frame.proofs.Rows.{is_bytes_lem}
use Rattle.command.proofs.Forms.{bytes_fit}
use Rattle.command.proofs.Items.{put_item, put_fits}
use Rattle.command.proofs.ChangeItemOctets19.to_octets.Goals as goal

pub returns : goal.returns
returns c =
    let i = c.args.self in
    let a : length i.account ≡ 10 = search rules in
    let k : Fits w8 i.kind = search rules in
    let v : SFits w64 i.value = search rules in (
      rw (c.copy_from_slice.ensures.after, c.copy_from_slice-2.ensures.after, c.to_octets.ensures.0, to_z-of_z v) (put_item i a k.fits),
      put_fits i (is_bytes_lem 10 i.account a (bytes_fit i.account (λ n. search rules))) k.fits (fits_money i.value v),
    )
