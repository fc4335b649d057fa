-- What a call that begins reads is its records.
use Rattle.qp_model.specs.Calls as call
use Rattle.qp_check_calls.specs.CallStateLaws.{ReadsBegin}
use Rattle.qp_check_calls.proofs.PostLemmas.{begin-post, begin-lifo, begin-forward}
use Rattle.qp_check_calls.proofs.PublishLemmas.{begin-publish}
use Rattle.qp_check_calls.proofs.DeferLemmas.{begin-defer}
use Rattle.qp_check_calls.proofs.RecallLemmas.{begin-recall}
use Rattle.qp_check_calls.proofs.FlushLemmas.{begin-flush}
use Rattle.qp_check_calls.proofs.SingleLemmas.{begin-single-subscribe, begin-single-unsubscribe, begin-single-arm, begin-single-rearm, begin-single-disarm}

pub reads-begin : ReadsBegin
reads-begin sys o now room kept (call.Post to sig pars margin reserve) a k g = begin-post sys o now kept a k room to sig pars margin reserve g
reads-begin sys o now room kept (call.Lifo sig pars reserve) a k g = begin-lifo sys o now kept a k room sig pars reserve g
reads-begin sys o now room kept (call.Forward to margin) a k g = begin-forward sys o now kept a k room to margin g
reads-begin sys o now room kept (call.Publish sig pars reserve) a k g = begin-publish sys o now kept a k room sig pars reserve g
reads-begin sys o now room kept call.Defer a k g = begin-defer sys o now kept a k room g
reads-begin sys o now room kept call.Recall a k g = begin-recall sys o now a k room kept g
reads-begin sys o now room kept call.Flush a k g = begin-flush sys o now kept k room a g
reads-begin sys o now room kept (call.Subscribe sig) a k g = begin-single-subscribe sys o now kept a k room sig g
reads-begin sys o now room kept (call.Unsubscribe sig) a k g = begin-single-unsubscribe sys o now kept a k room sig g
reads-begin sys o now room kept (call.Arm t ticks interval) a k g = begin-single-arm sys o now kept a k room t ticks interval g
reads-begin sys o now room kept (call.Rearm t ticks) a k g = begin-single-rearm sys o now kept a k room t ticks g
reads-begin sys o now room kept (call.Disarm t) a k g = begin-single-disarm sys o now kept a k room t g
