-- What was read of a file that tells its content.
use Rattle.std.proofs.Common.{◌≡◌, ◌<◌, ℕ, List, length, Option, Some, Result, Ok, Err, ap, subst, arith}
use Rattle.std.specs.Prelude.{IfSome}
use Rattle.pair_top.specs.Outside.{File}
use Rattle.pair_top.specs.Reading.{limit, WasRead, IsTooLong}
use Rattle.pair_top.specs.Serving.{Tells, TellsTooMuch}

-- what was read of a file that tells its content is that content
pub same_bytes : (content : Option (List ℕ)) (bytes told : List ℕ) → content ≡ Some told → WasRead content bytes → bytes ≡ told
same_bytes content bytes told is read = subst (λ o. IfSome o (λ t. bytes ≡ t)) is read.whole

pub not_long : (file : File) (bytes : List ℕ) → Tells file bytes → IsTooLong file.content → ⊥
not_long file bytes tells long = let more = subst (λ o. IfSome o (λ t. limit < length t)) tells.told long in let fits = tells.fits in absurd (omega arith)

-- a file that tells too much was not read
pub long_unread : (file : File) (bytes : List ℕ) → TellsTooMuch file → WasRead file.content bytes → ⊥
long_unread file bytes much read =
    let same = ap length (same_bytes file.content bytes much.bytes much.told read) in
    let fits = read.fits in
    let long = much.long in
    absurd (omega arith)

-- a content has one meaning
pub one_meaning : {A B : Type 0} (r : Result A B) (x : A) (fault : B) → r ≡ Ok x → r ≡ Err fault → ⊥
one_meaning r x fault a b = cc

pub one_fault : {A B : Type 0} (r : Result A B) (due fault : B) → r ≡ Err due → r ≡ Err fault → fault ≡ due
one_fault r due fault a b = cc
