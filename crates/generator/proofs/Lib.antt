mod AppendLaws
mod Examples
mod FormLaws
mod PlainLaws
mod ShortLaws
mod TextLaws
