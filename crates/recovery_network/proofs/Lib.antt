mod AckFrameLaws
mod BottleneckLaws
mod WayLaws
mod WriteLaws
