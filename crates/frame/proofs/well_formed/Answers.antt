use mathlib.Core.Path.{refl}
use mathlib.Core.Logic.{inl, inr}
use native.Mathlib.Omega.{arith}
use Rattle.rules.specs.Command.{is_method, is_letters}
use Rattle.frame.specs.Field.{size, row_size, width, may, are_fields}
use Rattle.frame.specs.Frame.{kind_byte, kinds, fields_of, layout}
use Rattle.frame.proofs.Layouts.{kind, kind_code, kind_three, kind_other, from_three}
use Rattle.frame.proofs.Commands.{Unless}
use Rattle.frame.proofs.well_formed.Goals as goal

pub returns-in-1 : goal.returns-in-1
unfolding are_fields may width size row_size layout fields_of
returns-in-1 c =
    let a = c in
    kind_code _ _ _ a.in-1.is a.at-kind.ensures (rw c.is_code_at.ensures)

pub returns-in-2 : goal.returns-in-2
unfolding is_method are_fields may width size row_size layout fields_of
returns-in-2 c =
    let a = c in
    kind _ _ 2 _ a.in-2.is a.at-kind.ensures
    (rw (
      c.is_method-in-2.ensures,
      c.at-in-2.ensures,
      c.is_method.ensures,
      c.at.ensures,
      c.is_code_at-in-2-2.ensures,
      c.is_code_at-in-2.ensures,
    ))

pub returns-in-5 : goal.returns-in-5
unfolding are_fields may width size row_size layout fields_of
returns-in-5 c =
    let a = c in
    kind _ _ 5 _ a.in-5.is a.at-kind.ensures (rw c.is_code_at-in-5.ensures)

pub returns-in-6 : goal.returns-in-6
unfolding are_fields may width size row_size layout fields_of
returns-in-6 c =
    let a = c in
    kind _ _ 6 _ a.in-6.is a.at-kind.ensures (rw (c.is_code_at-in-6-2.ensures, c.is_code_at-in-6.ensures, c.is_way.ensures, c.at-in-6.ensures))

pub returns-in-7 : goal.returns-in-7
unfolding are_fields may width size row_size layout fields_of
returns-in-7 c =
    let a = c in
    kind _ _ 7 _ a.in-7.is a.at-kind.ensures (rw (c.rows_at.ensures, c.second_at.ensures, c.is_code_at-in-7.ensures))

pub returns-in-8 : goal.returns-in-8
unfolding are_fields may width size row_size layout fields_of
returns-in-8 c =
    let a = c in
    kind _ _ 8 _ a.in-8.is a.at-kind.ensures (rw (c.second_at-in-8.ensures, c.is_code_at-in-8.ensures))

pub returns-in-9 : goal.returns-in-9
unfolding are_fields may width size row_size layout fields_of
returns-in-9 c =
    let a = c in
    kind _ _ 9 _ a.in-9.is a.at-kind.ensures (rw (c.rows_at-in-9.ensures, c.second_at-in-9.ensures, c.is_code_at-in-9.ensures))

pub returns-in-10 : goal.returns-in-10
unfolding are_fields may width size row_size layout fields_of
returns-in-10 c = kind _ _ 10 _ c.in-10.is c.at-kind.ensures refl

pub returns-in-11 : goal.returns-in-11
unfolding are_fields may width size row_size layout fields_of
returns-in-11 c =
    let a = c in
    kind _ _ 11 _ a.in-11.is a.at-kind.ensures (rw (c.conditions_at.ensures, c.second_at-in-11.ensures, c.is_code_at-in-11.ensures))

pub returns-in-12 : goal.returns-in-12
unfolding is_letters are_fields may width size row_size layout fields_of
returns-in-12 c =
    let a = c in
    kind _ _ 12 _ a.in-12.is a.at-kind.ensures (rw (c.is_letters.ensures, c.at-in-12.ensures, c.is_code_at-in-12.ensures))

pub returns-in-3-to-4 : goal.returns-in-3-to-4
unfolding are_fields may width size row_size layout fields_of
returns-in-3-to-4 c =
    let a = c in
    let r = a.in-3-to-4.in_default-own.rest.0.0.0.0.0.0.0.0 in
    kind_three _ _ _
    (from_three _ c.in-3-to-4.if-kind-lt1-own.false (λ e. r.0.1 (inl e)) r.1)
    c.in-3-to-4.if-kind-lt5-own.true
    a.at-kind.ensures
    (rw c.is_code_at-in-3-to-4.ensures)

pub returns-in_default : goal.returns-in_default
unfolding are_fields may width size row_size layout fields_of
returns-in_default c = kind _ _ 0 _ (omega arith) c.at-kind.ensures refl

pub returns-in_default-2 : goal.returns-in_default-2
unfolding kind_byte kinds Unless
returns-in_default-2 c =
    let r = c.in_default.in_default-own.rest in
    let l = r.0.0.0.0.0.0.0.0 in
    let h = c.in_default.if-kind-lt5-own.false in
    kind_other _ _ c.at-kind.ensures (λ e. l.0.1 (inl e)) l.1 (λ e. omega arith) (λ e. omega arith)
    r.0.0.0.0.0.0.0.1 r.0.0.0.0.0.0.1 r.0.0.0.0.0.1 r.0.0.0.0.1 r.0.0.0.1 r.0.0.1 r.0.1 r.1
    (λ e. l.0.1 (inr e))
