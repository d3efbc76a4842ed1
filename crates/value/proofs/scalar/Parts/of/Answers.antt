-- Each case: its type, and the number that is stored in the bytes of its type.
use native.Mathlib.Omega.{arith}
use mathlib.Core.Path.{◌∙◌, ap}
use mathlib.Core.List.{◌∷◌}
use mir.Syntax.{w8, w16, w32, w64}
use mir.ValLaws.{to_z-of_z}
use Rattle.encoding.specs.Packed.{le}
use Rattle.encoding.proofs.SignedLaws.{whole_bytes}
use Rattle.value.specs.declared.decoder.VariantPrimitiveType.TheVariants as type
use Rattle.value.specs.Scalar.{coded, integer, decimal}
use Rattle.value.proofs.DecimalLaws.{widen}
use Rattle.value.proofs.ScalarLaws.{arm, narrow}
use Rattle.value.proofs.scalar.Parts.of.Goals as goal

pub overflow_cast-x : goal.overflow_cast-x
overflow_cast-x c = (widen w8 c.in-Int8.x tt (record { sfits = omega arith })).fit

pub overflow_cast-x-in-Int16 : goal.overflow_cast-x-in-Int16
overflow_cast-x-in-Int16 c = (widen w16 c.in-Int16.x tt (record { sfits = omega arith })).fit

pub overflow_cast-x-in-Int32 : goal.overflow_cast-x-in-Int32
overflow_cast-x-in-Int32 c = (widen w32 c.in-Int32.x tt (record { sfits = omega arith })).fit

pub overflow_cast-d : goal.overflow_cast-d
overflow_cast-d c = (widen w32 c.in-Decimal4.d.integer tt (record { sfits = omega arith })).fit

pub overflow_cast-days : goal.overflow_cast-days
overflow_cast-days c = (widen w32 c.in-Date.days tt (record { sfits = omega arith })).fit

pub returns-in-Null : goal.returns-in-Null
unfolding le
returns-in-Null c = arm c.in-Null.is c.number.ensures

pub returns-in-BooleanTrue : goal.returns-in-BooleanTrue
unfolding le
returns-in-BooleanTrue c = arm c.in-BooleanTrue.is c.number-in-BooleanTrue.ensures

pub returns-in-BooleanFalse : goal.returns-in-BooleanFalse
unfolding le
returns-in-BooleanFalse c = arm c.in-BooleanFalse.is c.number-in-BooleanFalse.ensures

pub returns-in-Int8 : goal.returns-in-Int8
returns-in-Int8 c = arm c.in-Int8.is (c.integer.ensures ∙ ap (λ l. coded type.Int8 l) (narrow w8 1 7 _ (widen w8 _ tt (record { sfits = omega arith })) (omega arith)))

pub returns-in-Int16 : goal.returns-in-Int16
returns-in-Int16 c = arm c.in-Int16.is (c.integer-in-Int16.ensures ∙ ap (λ l. coded type.Int16 l) (narrow w16 2 6 _ (widen w16 _ tt (record { sfits = omega arith })) (omega arith)))

pub returns-in-Int32 : goal.returns-in-Int32
returns-in-Int32 c = arm c.in-Int32.is (c.integer-in-Int32.ensures ∙ ap (λ l. coded type.Int32 l) (narrow w32 4 4 _ (widen w32 _ tt (record { sfits = omega arith })) (omega arith)))

pub returns-in-Int64 : goal.returns-in-Int64
returns-in-Int64 c = arm c.in-Int64.is (c.integer-in-Int64.ensures ∙ ap (λ z. integer type.Int64 8 z) (to_z-of_z w64 _ (record { sfits = omega arith })))

pub returns-in-Double : goal.returns-in-Double
unfolding le
returns-in-Double c = arm c.in-Double.is c.number-in-Double.ensures

pub returns-in-Decimal4 : goal.returns-in-Decimal4
returns-in-Decimal4 c =
    let d = c.in-Decimal4.d in
    arm c.in-Decimal4.is (c.decimal.ensures ∙ ap (λ l. coded type.Decimal4 (d.scale ∷ l)) (narrow w32 4 4 d.integer (widen w32 d.integer tt (record { sfits = omega arith })) (omega arith)))

pub returns-in-Decimal8 : goal.returns-in-Decimal8
returns-in-Decimal8 c =
    let d = c.in-Decimal8.d in
    arm c.in-Decimal8.is (c.decimal-in-Decimal8.ensures ∙ ap (λ z. decimal type.Decimal8 8 d.scale z) (to_z-of_z w64 d.integer (record { sfits = omega arith })))

pub returns-in-Decimal16 : goal.returns-in-Decimal16
returns-in-Decimal16 c =
    let d = c.in-Decimal16.d in
    arm c.in-Decimal16.is (c.decimal16.ensures ∙ ap (λ l. coded type.Decimal16 (d.scale ∷ l)) (whole_bytes d.high d.low (omega arith) (omega arith)))

pub returns-in-Date : goal.returns-in-Date
returns-in-Date c = arm c.in-Date.is (c.integer-in-Date.ensures ∙ ap (λ l. coded type.Date l) (narrow w32 4 4 _ (widen w32 _ tt (record { sfits = omega arith })) (omega arith)))

pub returns-in-TimestampMicros : goal.returns-in-TimestampMicros
returns-in-TimestampMicros c = arm c.in-TimestampMicros.is (c.integer-in-TimestampMicros.ensures ∙ ap (λ z. integer type.TimestampMicros 8 z) (to_z-of_z w64 _ (record { sfits = omega arith })))

pub returns-in-TimestampNtzMicros : goal.returns-in-TimestampNtzMicros
returns-in-TimestampNtzMicros c = arm c.in-TimestampNtzMicros.is (c.integer-in-TimestampNtzMicros.ensures ∙ ap (λ z. integer type.TimestampNtzMicros 8 z) (to_z-of_z w64 _ (record { sfits = omega arith })))

pub returns-in-Float : goal.returns-in-Float
unfolding le
returns-in-Float c = arm c.in-Float.is c.number-in-Float.ensures

pub returns-in-Time : goal.returns-in-Time
returns-in-Time c = arm c.in-Time.is (c.integer-in-Time.ensures ∙ ap (λ z. integer type.Time 8 z) (to_z-of_z w64 _ (record { sfits = omega arith })))

pub returns-in-TimestampNanos : goal.returns-in-TimestampNanos
returns-in-TimestampNanos c = arm c.in-TimestampNanos.is (c.integer-in-TimestampNanos.ensures ∙ ap (λ z. integer type.TimestampNanos 8 z) (to_z-of_z w64 _ (record { sfits = omega arith })))

pub returns-in-TimestampNtzNanos : goal.returns-in-TimestampNtzNanos
returns-in-TimestampNtzNanos c = arm c.in-TimestampNtzNanos.is (c.integer-in-TimestampNtzNanos.ensures ∙ ap (λ z. integer type.TimestampNtzNanos 8 z) (to_z-of_z w64 _ (record { sfits = omega arith })))
