use mathlib.Core.Path.{refl}
use Rattle.flow_path.specs.Sending.SearchAndPush.{away, reached}
use Rattle.flow_path.proofs.sending.search_and_push.Goals as goal

pub returns-then-key-t-lt-UNREACHED : goal.returns-then-key-t-lt-UNREACHED
returns-then-key-t-lt-UNREACHED c =
    reached _ c.search.ensures c.if-key-t-lt-UNREACHED.true _ c.push-got.ensures

pub returns : goal.returns
returns c = away _ c.search.ensures c.if-key-t-lt-UNREACHED.false refl refl
